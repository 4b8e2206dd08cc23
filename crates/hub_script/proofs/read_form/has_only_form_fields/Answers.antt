use Rattle.std.proofs.Common.{◌≡◌, sym, ap, ◌∙◌}
use Rattle.std.specs.List.{list_all}
use Rattle.std.specs.declared.alloc.Global.{Global}
use Rattle.json.specs.Json.{Json, object}
use Rattle.json.specs.Value.{members_view, value_view}
use Rattle.json.specs.declared.value.Value.{Value}
use Rattle.json.proofs.Trees.{view-Object}
use Rattle.hub_script.specs.Form.{has_only}
use Rattle.hub_script.specs.JsonData.{data_of, json_names}
use Rattle.hub_script.specs.Shapes.{has_name}
use Rattle.hub_script.proofs.JsonData.{all_names}
use Rattle.hub_script.proofs.read_form.has_only_form_fields.Goals as goal

pub returns-in-Object : goal.returns-in-Object
returns-in-Object c =
    let p = has_name c.args.keyword in
    let ms = members_view c.in-Object.fields.items in
    let seen : value_view c.args.line.now ≡ object ms = ap (λ (v : Value Global). value_view v) c.in-Object.is ∙ view-Object c.in-Object.fields in
    let shown : c.are_all_fields_of_keyword.result ≡ list_all p (json_names ms) = rw (← c.deref.ensures.value) c.are_all_fields_of_keyword.ensures in
    shown ∙ sym (all_names p ms) ∙ ap (λ (j : Json). has_only c.args.keyword (data_of j)) (sym seen)

use Rattle.std.proofs.Common.{sym, ap, ◌∙◌, option_map}
use Rattle.std.specs.Borrow.{Bor}
use Rattle.std.specs.declared.alloc.Global.{Global}
use Rattle.json.specs.Value.{value_view}
use Rattle.json.specs.declared.value.Value.{Value}
use Rattle.hub_script.specs.JsonData.{data_of}
use Rattle.hub_script.proofs.JsonData.{get-data_of, mapped, writable_field}
use Rattle.hub_script.proofs.values.field_of.Goals as goal

pub returns-clause-value : goal.returns-clause-value
returns-clause-value c =
    mapped (λ (v : Bor (Value Global)). value_view v.now) data_of c.get.result ∙ ap (option_map data_of) c.get.ensures
    ∙ sym (get-data_of c.args.name.now (value_view c.args.line.now))

pub returns-clause-writable : goal.returns-clause-writable
returns-clause-writable c =
    writable_field (λ (v : Bor (Value Global)). value_view v.now) c.args.name.now (value_view c.args.line.now) c.get.result c.get.ensures

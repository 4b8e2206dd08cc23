use Rattle.std.proofs.Common.{◌≡◌, drop}
use Rattle.std.specs.List.{list_all}
use Rattle.json.specs.Value.{members_view}
use Rattle.hub_script.specs.JsonData.{json_names}
use Rattle.hub_script.specs.Shapes.{has_name}
use Rattle.hub_script.proofs.read_form.are_all_fields_of_keyword.Given as goal

-- what is left decides
abbrev pub invariant-loop-field : goal.invariant-loop-field
invariant-loop-field l =
    list_all (has_name l.keyword) (json_names (members_view (drop l.field-index l.fields))) ≡ list_all (has_name l.keyword) (json_names (members_view l.fields))

use Rattle.std.proofs.Common.{◌≡◌, drop}
use Rattle.json.specs.Value.{items_view, members_view}
use Rattle.hub_script.specs.JsonData.{items_in_range, members_in_range}
use Rattle.hub_script.proofs.values.+are_numbers_in_range.Given as goal

-- what is left decides
abbrev pub invariant-are_numbers_of_json_items_in_range-loop-item : goal.invariant-are_numbers_of_json_items_in_range-loop-item
invariant-are_numbers_of_json_items_in_range-loop-item l =
    items_in_range (items_view (drop l.item-index l.items)) ≡ items_in_range (items_view l.items)

abbrev pub invariant-are_numbers_of_json_members_in_range-loop-member : goal.invariant-are_numbers_of_json_members_in_range-loop-member
invariant-are_numbers_of_json_members_in_range-loop-member l =
    members_in_range (members_view (drop l.member-index l.members)) ≡ members_in_range (members_view l.members)

use Rattle.std.proofs.Common.{◌≡◌, drop}
use Rattle.serde_json.specs.View.{items_view, members_view}
use Rattle.serde_json.specs.Written.{items_have_float, members_have_float}
use Rattle.hub_envelope.proofs.profile.+json_value_has_whole_numbers.Given as goal

-- what is left decides
abbrev pub invariant-items_have_whole_numbers-loop-item : goal.invariant-items_have_whole_numbers-loop-item
invariant-items_have_whole_numbers-loop-item l =
    items_have_float (items_view (drop l.item-index l.items)) ≡ items_have_float (items_view l.items)

abbrev pub invariant-json_members_have_whole_numbers-loop-member : goal.invariant-json_members_have_whole_numbers-loop-member
invariant-json_members_have_whole_numbers-loop-member l =
    members_have_float (members_view l.member-iterator) ≡ members_have_float (members_view l.initial.member-iterator)

use Rattle.std.proofs.Common.{◌≤◌, drop}
use Rattle.serde_json.specs.Data.{items_depth, members_depth}
use Rattle.serde_json.specs.View.{items_view, members_view}
use Rattle.hub_envelope.proofs.profile.+json_value_nests_within.Given as goal

-- what is left nests no deeper than all, and decides
abbrev pub invariant-items_nest_within-loop-item : goal.invariant-items_nest_within-loop-item
invariant-items_nest_within-loop-item l =
    (items_depth (items_view (drop l.item-index l.items)) ≤ items_depth (items_view l.items))
    × (items_depth (items_view (drop l.item-index l.items)) ≤ l.levels → items_depth (items_view l.items) ≤ l.levels)

abbrev pub invariant-json_members_nest_within-loop-member : goal.invariant-json_members_nest_within-loop-member
invariant-json_members_nest_within-loop-member l =
    (members_depth (members_view l.member-iterator) ≤ members_depth (members_view l.initial.member-iterator))
    × (members_depth (members_view l.member-iterator) ≤ l.levels → members_depth (members_view l.initial.member-iterator) ≤ l.levels)

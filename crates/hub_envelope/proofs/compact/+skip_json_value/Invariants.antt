use Rattle.std.proofs.Common.{ℕ, ◌+◌, ◌*◌, List, length, None, option_map}
use Rattle.hub_envelope.proofs.Fronts.{AreItemsBefore, AreMembersBefore}
use Rattle.hub_envelope.proofs.compact.+skip_json_value.Given as goal

abbrev pub decreases-skip_json_value : goal.decreases-skip_json_value
decreases-skip_json_value l = l.levels * 2

abbrev pub decreases-skip_array_items : goal.decreases-skip_array_items
decreases-skip_array_items l = l.levels * 2 + 1

abbrev pub decreases-skip_object_members : goal.decreases-skip_object_members
decreases-skip_object_members l = l.levels * 2 + 1

-- whatever completes what is left completes the whole
abbrev pub invariant-skip_array_items-loop-mark : goal.invariant-skip_array_items-loop-mark
invariant-skip_array_items-loop-mark l = (after : List ℕ) → AreItemsBefore l.levels l.rest after → AreItemsBefore l.levels l.fn.text after

abbrev pub decreases-skip_array_items-loop-mark : goal.decreases-skip_array_items-loop-mark
decreases-skip_array_items-loop-mark l = length l.rest

abbrev pub invariant-skip_object_members-loop-key : goal.invariant-skip_object_members-loop-key
invariant-skip_object_members-loop-key l =
    (after : List ℕ) → AreMembersBefore l.levels (option_map (λ key. key.now) l.before) l.rest after → AreMembersBefore l.levels None l.fn.text after

abbrev pub decreases-skip_object_members-loop-key : goal.decreases-skip_object_members-loop-key
decreases-skip_object_members-loop-key l = length l.rest

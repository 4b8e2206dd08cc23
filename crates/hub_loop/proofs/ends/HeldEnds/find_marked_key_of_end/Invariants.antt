use Rattle.std.proofs.Common.{◌≡◌, ◌<◌, ◌-◌, ℕ}
use Rattle.slab.specs.Slab.{get}
use Rattle.hub_ready.specs.Marking.{mark_of}
use Rattle.hub_loop.specs.Looking.{IsEndOf, IsSlotOf}
use Rattle.hub_loop.proofs.ends.HeldEnds.find_marked_key_of_end.Given as goal

abbrev pub invariant-marks : goal.invariant-marks
invariant-marks l = (key : ℕ) → key < l.key → mark_of l.self.ready.marks key ≡ 1 → IsSlotOf (IsEndOf l.kind l.end) (get l.self.held key) → ⊥

abbrev pub decreases-marks : goal.decreases-marks
decreases-marks l = l.high - l.key

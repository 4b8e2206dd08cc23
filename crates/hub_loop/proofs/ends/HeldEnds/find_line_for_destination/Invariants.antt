use Rattle.std.proofs.Common.{◌<◌, ℕ}
use Rattle.slab.specs.Slab.{get}
use Rattle.hub_loop.specs.Looking.{IsLineTo, IsSlotOf}
use Rattle.hub_loop.proofs.ends.HeldEnds.find_line_for_destination.Given as goal

abbrev pub invariant-loop-key : goal.invariant-loop-key
invariant-loop-key l = (key : ℕ) → key < l.key → IsSlotOf (IsLineTo l.end) (get l.self.held key) → ⊥

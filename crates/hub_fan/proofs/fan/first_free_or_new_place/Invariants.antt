use Rattle.std.proofs.Common.{◌<◌, ℕ, slice_get}
use Rattle.hub_fan.specs.Fans.{IsInUse}
use Rattle.hub_fan.proofs.fan.first_free_or_new_place.Given as goal

abbrev pub invariant-loop-line : goal.invariant-loop-line
invariant-loop-line g l = (j : ℕ) → j < l.line → IsInUse (slice_get l.lines j)

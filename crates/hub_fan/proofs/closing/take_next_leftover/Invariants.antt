use Rattle.std.proofs.Common.{◌≡◌, ◌<◌, None, slice_get, IfSome}
use Rattle.hub_fan.specs.Places.{Keeps, StaysEnded, StillWaits}
use Rattle.hub_fan.specs.Fans.{AtOne}
use Rattle.hub_fan.proofs.Below.{DoneBelow}
use Rattle.hub_fan.proofs.closing.take_next_leftover.Given as goal

abbrev pub invariant-loop-line : goal.invariant-loop-line
invariant-loop-line g l = record {
  kept : DoneBelow Keeps l.line l.fn.lines l.lines;
  ended : l.waiting ≡ None → DoneBelow StaysEnded l.line l.fn.lines l.lines;
  waits : IfSome l.waiting (λ i. (i < l.line) × AtOne StillWaits (slice_get l.fn.lines i) (slice_get l.lines i));
}

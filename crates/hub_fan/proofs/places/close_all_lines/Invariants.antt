use Rattle.hub_fan.specs.Places.{Shuts}
use Rattle.hub_fan.proofs.Below.{DoneBelow}
use Rattle.hub_fan.proofs.places.close_all_lines.Given as goal

abbrev pub invariant-loop-line : goal.invariant-loop-line
invariant-loop-line g l = DoneBelow Shuts l.line-index l.fn.lines l.lines

use Rattle.hub_line.specs.Ends.{SameTaker}
use Rattle.hub_line_tests.proofs.lines.takes.Given as goal

abbrev pub invariant-loop-n : goal.invariant-loop-n
invariant-loop-n l = SameTaker l.initial.taker l.taker

use Rattle.hub_steps.proofs.Computing.{ClosedFirst}
use Rattle.hub_steps.proofs.closing.close_listed_ends.Given as goal

abbrev pub invariant-loop-end : goal.invariant-loop-end
invariant-loop-end l = ClosedFirst l.fn.core l.core l.end-index l.memory_refused l.ends

use Rattle.std.specs.Prelude.{[]}
use Rattle.hub_agent.proofs.Closings.{Closes}
use Rattle.hub_agent.proofs.Endings.{Ends}
use Rattle.hub_agent.proofs.ending.log_all_closed.Given as goal

abbrev pub invariant-loop-swept : goal.invariant-loop-swept
invariant-loop-swept l = record { ends : Ends l.fn.scribe l.scribe; closes : Closes l.fn.scribe l.scribe l.left.keys l.fn.held }

abbrev pub invariant-loop-posted : goal.invariant-loop-posted
invariant-loop-posted l = record { ends : Ends l.fn.scribe l.scribe; closes : Closes l.fn.scribe l.scribe [] l.fn.held }

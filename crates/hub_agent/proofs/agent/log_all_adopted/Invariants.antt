use Rattle.std.proofs.Common.{take}
use Rattle.hub_agent.proofs.Walking.{Adopts}
use Rattle.hub_agent.proofs.agent.log_all_adopted.Given as goal

abbrev pub invariant-loop-end : goal.invariant-loop-end
invariant-loop-end g l = Adopts (take l.end-index l.ends) l.fn.scribe l.scribe

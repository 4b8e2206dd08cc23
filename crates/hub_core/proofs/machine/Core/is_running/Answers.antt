use Rattle.std.proofs.Common.{ap, sym}
use Rattle.hub_core.specs.Shows.{agent_now}
use Rattle.hub_core.proofs.machine.Core.is_running.Goals as goal

pub returns-in-Some : goal.returns-in-Some
returns-in-Some c = ap (λ a. (agent_now a).runs) (sym c.in-Some.ensures)

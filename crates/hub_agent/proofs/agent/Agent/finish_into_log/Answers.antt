use Rattle.std.proofs.Common.{ap, arith}
use Rattle.hub_agent.specs.Agents.{AgentState}
use Rattle.hub_agent.specs.Owning.{has, lost}
use Rattle.hub_agent.proofs.agent.Agent.finish_into_log.Goals as goal

pub returns-in-Ok-clause-own : goal.returns-in-Ok-clause-own
returns-in-Ok-clause-own g c = λ e.
    let own = c.in-Ok.ensures.own e in
    let notes = ap (λ (a : AgentState). lost e a.notes.log.1) c.self.view_is in
    let held = ap (λ (a : AgentState). has a e) c.self.view_is in
    omega (arith, own, notes, held)

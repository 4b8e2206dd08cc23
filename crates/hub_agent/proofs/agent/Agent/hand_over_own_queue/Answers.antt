use Rattle.std.proofs.Common.{ap}
use Rattle.hub_agent.specs.Agents.{AgentState}
use Rattle.hub_agent.proofs.Holdings.{on_ok}
use Rattle.hub_agent.proofs.Keeping.{again_so, less_so}
use Rattle.hub_agent.proofs.agent.Agent.hand_over_own_queue.Goals as goal

pub returns-in-Ok-clause-held : goal.returns-in-Ok-clause-held
returns-in-Ok-clause-held g c =
    less_so c.self.inside.event_loop.holding.ends.held c.args.self.now.ends c.release_end.new.self.holding.ends.held c.in-Some.held (ap (λ (a : AgentState). a.ends) c.self.view_is) c.in-Some.ensures.given.1

pub returns-in_ok-hold_end_or_line-in-Err-clause-held : goal.returns-in_ok-hold_end_or_line-in-Err-clause-held
returns-in_ok-hold_end_or_line-in-Err-clause-held g c =
    on_ok c.map_or.result
    (again_so c.self.inside.event_loop.holding.ends.held c.args.self.now.ends c.release_end.new.self.holding.ends.held c.hold_end_or_line.new.self.ends c.in-Some.held c.in-Err.held (ap (λ (a : AgentState). a.ends) c.self.view_is) c.in-Some.ensures.given.1 c.in-Err.ensures
    c.in_ok-hold_end_or_line-in-Err.ensures.held)

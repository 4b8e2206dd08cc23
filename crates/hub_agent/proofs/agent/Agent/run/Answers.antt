use Rattle.std.proofs.Common.{ap}
use Rattle.hub_agent.specs.Agents.{AgentState}
use Rattle.hub_logging.specs.Notes.{Notes}
use Rattle.hub_agent.proofs.Logs.{run_of}
use Rattle.hub_agent.proofs.agent.Agent.run.Goals as goal

pub returns : goal.returns
returns g c =
    run_of c.args.script.now c.args.number c.args.self _ c.run_all_actions-acted.new.self c.in_ok-acted.field-0 c.in_ok-finished.field-0 c.in_ok-acted.ensures c.requires.given
    (ap (λ (a : AgentState). a.kept) c.self.view_is) (ap (λ (a : AgentState). a.ends) c.self.view_is) (ap (λ (n : Notes). n.log) c.new.ensures) c.in_ok-finished.ensures.written c.in_ok-finished.ensures.own

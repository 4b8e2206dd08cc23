use Rattle.std.proofs.Common.{◌∙◌, ap}
use Rattle.hub_logging.specs.Notes.{Notes}
use Rattle.hub_agent.specs.Agents.{AgentState}
use Rattle.hub_agent.proofs.Walking.{adopts_since}
use Rattle.hub_agent.proofs.agent.Agent.log_newly_adopted.Goals as goal

pub returns-clause-written : goal.returns-clause-written
returns-clause-written g c =
    adopts_since c.log_all_adopted.result _ c.args.self.now.notes.adopted c.args.self.now.notes c.take_ports_of_last_delivery-adopted.new.self c.log_all_adopted.new.scribe
    (c.deref.ensures.value ∙ c.take_ports_of_last_delivery-adopted.ensures.given ∙ ap (λ (a : AgentState). a.notes.adopted) c.self.view_is)
    (ap (λ (n : Notes). n.log) c.take_ports_of_last_delivery-adopted.ensures.taken ∙ ap (λ (a : AgentState). a.notes.log) c.self.view_is)
    c.log_all_adopted.ensures

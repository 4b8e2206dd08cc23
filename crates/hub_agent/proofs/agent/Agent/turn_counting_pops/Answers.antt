use Rattle.std.proofs.Common.{◌∙◌, ap, sym}
use Rattle.hub_agent.specs.Agents.{AgentState}
use Rattle.hub_agent.proofs.Brings.{turn_brings}
use Rattle.hub_agent.proofs.Turns.{counted}
use Rattle.hub_agent.proofs.agent.Agent.turn_counting_pops.Goals as goal

pub returns-clause-left : goal.returns-clause-left
returns-clause-left g c =
    let put = ap (λ e. e.handler) c.replace_loop_handler-empty.ensures.put in
    counted _ _ _ _ _ c.turn-turn.result c.turn-turn.ensures.turn.2 c.replace_loop_handler.ensures.given (put ∙ c.replace_with_empty-scribe.ensures.given ∙ ap (λ (a : AgentState). a.notes) c.self.view_is)

pub returns-clause-brings : goal.returns-clause-brings
returns-clause-brings g c =
    let put = c.replace_loop_handler-empty.ensures.put in
    let back = c.replace_loop_handler.ensures.put in
    turn_brings _ _ _ c.turn-turn.result c.args.self.now _ c.turn-turn.ensures.turn.2
    (sym (ap (λ (a : AgentState). a.ends) c.self.view_is) ∙ sym (ap (λ l. l.holding.ends.held) put))
    (sym (ap (λ (a : AgentState). a.kept) c.self.view_is) ∙ sym (ap (λ l. l.kept) put))
    (ap (λ l. l.holding.ends.held) back) (ap (λ l. l.kept) back) c.replace_loop_handler.ensures.given

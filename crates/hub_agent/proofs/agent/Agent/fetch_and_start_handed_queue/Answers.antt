use Rattle.std.proofs.Common.{◌∙◌, [], ◌∷◌, ap, false, true, refl, rules, sym}
use Rattle.hub_loop.specs.Adopting.{IsFetched}
use Rattle.hub_trace.specs.declared.log_entry.LogEntry.TheVariants.{Adopted}
use Rattle.hub_agent.specs.Agents.{AgentState}
use Rattle.hub_agent.specs.Entries.{log_and}
use Rattle.hub_agent.proofs.Actions.{fetched_accounts, not_fetched_accounts}
use Rattle.hub_agent.proofs.agent.Agent.fetch_and_start_handed_queue.Goals as goal

pub returns-clause-written : goal.returns-clause-written
returns-clause-written g c =
    let (epoch, written) = c.in_ok-log_adopted.ensures in
    (Adopted c.args.end epoch ∷ [], (epoch, refl), written ∙ ap (λ (a : AgentState). log_and a.notes.log (Adopted c.args.end epoch ∷ [])) c.self.view_is)

pub returns-in-Ok-false-clause-own : goal.returns-in-Ok-false-clause-own
returns-in-Ok-false-clause-own g c =
    let came : IsFetched false c.self.inside.event_loop.holding c.fetch.new.self.holding c.args.end = search rules in
    not_fetched_accounts c.args.self.now (record c.args.self.now { notes = c.self.inside.scribe; ends = c.fetch.new.self.holding.ends.held; kept = c.fetch.new.self.kept }) c.self.inside.event_loop.holding c.fetch.new.self.holding c.args.end
    (sym (ap (λ (a : AgentState). a.ends) c.self.view_is)) came refl (ap (λ (a : AgentState). a.notes) c.self.view_is)
    (ap (λ l. l.kept) c.fetch.ensures.rest ∙ ap (λ (a : AgentState). a.kept) c.self.view_is)

pub returns-clause-own : goal.returns-clause-own
returns-clause-own g c =
    let came : IsFetched true c.self.inside.event_loop.holding c.fetch.new.self.holding c.args.end = search rules in
    let (epoch, written) = c.in_ok-log_adopted.ensures in
    fetched_accounts c.args.self.now (record c.args.self.now { notes = c.log_adopted.new.scribe; ends = c.start_client_queue.new.self.holding.ends.held; kept = c.start_client_queue.new.self.kept }) c.self.inside.event_loop.holding c.fetch.new.self.holding c.args.end c.start_client_queue.result
    (sym (ap (λ (a : AgentState). a.ends) c.self.view_is)) came c.start_client_queue.ensures.started
    (epoch, written ∙ ap (λ (a : AgentState). log_and a.notes.log (Adopted c.args.end epoch ∷ [])) c.self.view_is)
    (ap (λ l. l.kept) c.start_client_queue.ensures.rest ∙ ap (λ l. l.kept) c.fetch.ensures.rest ∙ ap (λ (a : AgentState). a.kept) c.self.view_is)

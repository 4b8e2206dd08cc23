use Rattle.std.proofs.Common.{◌∙◌, ap}
use Rattle.hub_agent.specs.Agents.{AgentState}
use Rattle.hub_agent.specs.Entries.{closed_entries}
use Rattle.hub_agent.proofs.Actions.{closed_accounts}
use Rattle.hub_agent.proofs.Holdings.{closed_held, on_ok}
use Rattle.hub_agent.proofs.Walking.{close_of, closed_so}
use Rattle.hub_agent.proofs.Writing.{wrote_since}
use Rattle.hub_agent.proofs.agent.Agent.close_port_or_member.Goals as goal

pub returns-clause-written : goal.returns-clause-written
returns-clause-written g c = close_of c.log_closed_end.result c.args.end _ c.self.inside.scribe c.args.self.now.notes c.log_closed_end.new.scribe (ap (λ (a : AgentState). a.notes) c.self.view_is) c.log_closed_end.ensures

pub returns-clause-held : goal.returns-clause-held
returns-clause-held g c =
    on_ok c.log_closed_end.result (closed_held c.args.end c.args.self.now _ c.self.inside.event_loop.holding.ends.held _ c.in-Some.closed (ap (λ (a : AgentState). a.ends) c.self.view_is) (ap (λ (a : AgentState). a.roster) c.self.view_is) c.in-Some.ensures.closed)

pub returns-clause-own : goal.returns-clause-own
returns-clause-own g c =
    let entries = closed_entries c.args.end c.in-Some.closed.port in
    closed_accounts c.log_closed_end.result c.args.self.now (record c.args.self.now { notes = c.log_closed_end.new.scribe; ends = _; kept = _ }) c.self.inside.event_loop.holding.ends.held c.args.end c.in-Some.closed entries (closed_so c.args.end c.in-Some.closed.port)
    (ap (λ (a : AgentState). a.ends) c.self.view_is) c.in-Some.ensures.closed
    (wrote_since c.log_closed_end.result c.self.inside.scribe c.args.self.now.notes c.log_closed_end.new.scribe entries (ap (λ (a : AgentState). a.notes) c.self.view_is) c.log_closed_end.ensures)
    (ap (λ l. l.kept) c.in-Some.ensures.rest ∙ ap (λ (a : AgentState). a.kept) c.self.view_is)

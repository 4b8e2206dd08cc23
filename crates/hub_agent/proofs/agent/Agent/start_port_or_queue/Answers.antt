use Rattle.std.proofs.Common.{◌≡◌, ◌∙◌, ap, false, inr, rules, subst}
use Rattle.hub_loop.specs.Looking.{HoldsNoPort}
use Rattle.hub_loop.specs.Starting.{StartsClient}
use Rattle.hub_agent.specs.Agents.{AgentState}
use Rattle.hub_agent.proofs.Holdings.{no_port}
use Rattle.hub_agent.proofs.agent.Agent.start_port_or_queue.Goals as goal

pub returns-then-not-start_port : goal.returns-then-not-start_port
returns-then-not-start_port g c =
    let refused : c.start_port.result ≡ false = search rules in
    let new = c.start_client_queue.new.self.holding.ends.held in
    let (none, started) = no_port c.self.inside.event_loop.holding.ends.held c.start_port.new.self.holding.ends.held new c.args.end c.start_port.result c.start_client_queue.result refused c.start_port.ensures.started c.start_client_queue.ensures.started in (
      λ i. record { notes = (c.self.view_is i).notes; ends = c.start_client_queue.new.self.holding.ends.held; kept = (ap (λ l. l.kept) c.start_client_queue.ensures.rest ∙ ap (λ l. l.kept) c.start_port.ensures.rest ∙ ap (λ (a : AgentState). a.kept) c.self.view_is) i; order = (c.self.view_is i).order; peers = (c.self.view_is i).peers; life = (c.self.view_is i).life; roster = (c.self.view_is i).roster },
      inr (
        subst (λ (a : AgentState). HoldsNoPort a.ends c.args.end) c.self.view_is none,
        (c.start_client_queue.result, subst (λ (a : AgentState). StartsClient a.ends new c.args.end c.start_client_queue.result) c.self.view_is started),
      ),
    )

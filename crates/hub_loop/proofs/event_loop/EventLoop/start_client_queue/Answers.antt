use Rattle.std.proofs.Common.{subst}
use Rattle.hub_loop.specs.Starting.{StartsClient}
use Rattle.hub_loop.proofs.Looks.{starts-client}
use Rattle.hub_loop.proofs.event_loop.EventLoop.start_client_queue.Goals as goal

pub returns-clause-started : goal.returns-clause-started
returns-clause-started g c =
    subst (λ l. StartsClient l.holding.ends.held c.start_end_of_kind.new.self.held c.args.end c.start_end_of_kind.result) c.self.view_is
    (starts-client c.self.inside.holding.ends.held c.start_end_of_kind.new.self.held c.args.end c.start_end_of_kind.result c.start_end_of_kind.ensures.held)

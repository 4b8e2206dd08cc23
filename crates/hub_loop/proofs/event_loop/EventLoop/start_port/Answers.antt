use Rattle.std.proofs.Common.{subst}
use Rattle.hub_loop.specs.Starting.{StartsPort}
use Rattle.hub_loop.proofs.Looks.{starts-port}
use Rattle.hub_loop.proofs.event_loop.EventLoop.start_port.Goals as goal

pub returns-clause-started : goal.returns-clause-started
returns-clause-started g c =
    subst (λ l. StartsPort l.holding.ends.held c.start_end_of_kind.new.self.held c.args.end c.start_end_of_kind.result) c.self.view_is
    (starts-port c.self.inside.holding.ends.held c.start_end_of_kind.new.self.held c.args.end c.start_end_of_kind.result c.start_end_of_kind.ensures.held)

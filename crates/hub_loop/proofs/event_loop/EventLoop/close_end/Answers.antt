use Rattle.std.proofs.Common.{◌≡◌, subst, sym}
use Rattle.hub_loop.specs.States.{holding_of}
use Rattle.hub_loop.proofs.Endings.{if-none}
use Rattle.hub_loop.proofs.event_loop.EventLoop.close_end.Goals as goal

pub returns-in_err-held-clause-none : goal.returns-in_err-held-clause-none
returns-in_err-held-clause-none g c =
    let inside = c.self.inside in
    if-none c.from_residual.result (sym (subst (λ e. c.args.self.now ≡ record {
      order = inside.order;
      listener = inside.listener;
      handler = inside.handler;
      holding = holding_of (record inside.holding { ends = e });
      kept = inside.kept;
      fetched = inside.fetched.items;
      closing = inside.closing;
    }) (sym c.in_err-held.ensures.unchanged) (sym c.self.view_is)))

use Rattle.std.proofs.Common.{IfSome, refl, sym, subst}
use Rattle.hub_clients.specs.Handing.{Waiting, AreToldClosed}
use Rattle.hub_clients.proofs.Closes.{none_closed, one_closed}
use Rattle.hub_clients.proofs.handed.close_handed_queues.Goals as goal

pub loop-handed-init : goal.loop-handed-init
loop-handed-init g c = none_closed (g.H.Hears.told c.args.heard.now) _ c.args.waiting.now refl

pub loop-handed-preserved : goal.loop-handed-preserved
loop-handed-preserved g c =
    subst (λ (w : Waiting). IfSome (g.H.Hears.told c.args.heard.now) (λ before. AreToldClosed c.args.waiting.now w before (g.H.Hears.told c.tell_done.new.self))) (sym c.in-Some.ensures.rest)
    (one_closed (g.H.Hears.told c.args.heard.now) (g.H.Hears.told c.loop-handed.heard) _ c.args.waiting.now c.loop-handed.waiting c.in-Some.handed c.close.result c.loop-handed.invariant c.tell_done.ensures c.in-Some.ensures.kept c.close.ensures)

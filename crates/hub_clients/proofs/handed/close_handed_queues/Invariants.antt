use Rattle.std.proofs.Common.{IfSome}
use Rattle.std.specs.FinMap.{len}
use Rattle.hub_clients.specs.Handing.{AreToldClosed}
use Rattle.hub_clients.proofs.handed.close_handed_queues.Given as goal

abbrev pub invariant-loop-handed : goal.invariant-loop-handed
invariant-loop-handed g l = IfSome (g.H.Hears.told l.fn.heard) (λ before. AreToldClosed l.initial.waiting l.waiting before (g.H.Hears.told l.heard))

abbrev pub decreases-loop-handed : goal.decreases-loop-handed
decreases-loop-handed g l = len l.waiting

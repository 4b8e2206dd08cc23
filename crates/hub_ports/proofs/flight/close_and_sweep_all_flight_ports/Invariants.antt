use Rattle.std.proofs.Common.{IfSome}
use Rattle.std.specs.FinMap.{len}
use Rattle.hub_ports.specs.Closing.{AreToldEmptied}
use Rattle.hub_ports.proofs.flight.close_and_sweep_all_flight_ports.Given as goal

abbrev pub invariant-loop-port : goal.invariant-loop-port
invariant-loop-port g l = IfSome (g.H.Hears.told l.fn.heard) (λ before. AreToldEmptied l.fn.grave l.initial.flight l.flight before (g.H.Hears.told l.heard))

abbrev pub decreases-loop-port : goal.decreases-loop-port
decreases-loop-port g l = len l.flight

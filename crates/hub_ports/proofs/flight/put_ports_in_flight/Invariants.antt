use Rattle.std.proofs.Common.{◌≡◌, ◌≤◌, take, vec_len, vec_capacity, IfSome}
use Rattle.hub_ports.specs.Flying.{HaveFlownBehind}
use Rattle.hub_ports.proofs.flight.put_ports_in_flight.Given as goal

abbrev pub invariant-loop-port : goal.invariant-loop-port
invariant-loop-port g l = record {
  stayed : l.ports.items ≡ take (vec_len l.ports) l.fn.ports.items;
  room : vec_len l.fn.ports ≤ vec_capacity l.ports;
  flown : IfSome (g.L.Lends.shown l.initial.flight) (λ kept. HaveFlownBehind kept l.fn.ports.items l.ports.items (g.L.Lends.shown l.flight));
}

abbrev pub decreases-loop-port : goal.decreases-loop-port
decreases-loop-port g l = vec_len l.ports

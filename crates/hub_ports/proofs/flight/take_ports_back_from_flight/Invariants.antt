use Rattle.std.proofs.Common.{◌≡◌, ◌+◌, ◌≤◌, List, ◌++◌, length, take, vec_len, vec_capacity, Some}
use Rattle.hub_ports.specs.Arriving.{Flight}
use Rattle.hub_ports.specs.Flying.{in_flight, AreFree}
use Rattle.hub_ports.specs.Seats.{PortSeat, ends_of}
use Rattle.hub_ports.specs.Splitting.{IsSplit}
use Rattle.hub_ports.proofs.Flights.{ComesBack}
use Rattle.hub_ports.proofs.flight.take_ports_back_from_flight.Given as goal

abbrev pub invariant-loop-index : goal.invariant-loop-index
invariant-loop-index g l = record {
  split : IsSplit (take l.index l.numbers) (ends_of l.ports.items) l.missing.items;
  back : (kept : Flight) (sent : List PortSeat) → g.L.Lends.shown l.initial.flight ≡ Some (in_flight kept sent) → AreFree kept sent → l.numbers ≡ ends_of l.fn.ports.items ++ ends_of sent
      → ComesBack kept sent l.fn.ports.items l.numbers l.index (g.L.Lends.shown l.flight) l.ports.items l.missing.items;
  count : vec_len l.ports + vec_len l.missing ≡ l.index;
  ports_room : length l.numbers ≤ vec_capacity l.ports;
  missing_room : length l.numbers ≤ vec_capacity l.missing;
}

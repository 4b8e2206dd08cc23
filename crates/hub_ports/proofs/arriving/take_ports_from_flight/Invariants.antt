use Rattle.std.proofs.Common.{◌≡◌, ◌+◌, ◌≤◌, length, take, vec_len, vec_capacity}
use Rattle.hub_ports.specs.Seats.{ends_of}
use Rattle.hub_ports.specs.Splitting.{IsSplit}
use Rattle.hub_ports.proofs.Arrivals.{HaveArrived}
use Rattle.hub_ports.proofs.arriving.take_ports_from_flight.Given as goal

abbrev pub invariant-loop-number : goal.invariant-loop-number
invariant-loop-number g l = record {
  split : IsSplit (take l.number-index l.numbers) (ends_of l.found.items) l.missing.items;
  arrived : HaveArrived (g.L.Lends.shown l.initial.flight) (g.L.Lends.shown l.flight) (take l.number-index l.numbers) l.found.items l.missing.items;
  count : vec_len l.found + vec_len l.missing ≡ l.number-index;
  found_room : length l.numbers ≤ vec_capacity l.found;
  missing_room : length l.numbers ≤ vec_capacity l.missing;
}

use Rattle.std.proofs.Common.{◌≡◌, ◌≤◌, length, take, vec_len, vec_capacity}
use Rattle.hub_ports.specs.Seats.{ends_of}
use Rattle.hub_ports.proofs.sending.numbers_of.Given as goal

abbrev pub invariant-loop-port : goal.invariant-loop-port
invariant-loop-port l = record {
  listed : l.numbers.items ≡ ends_of (take l.port-index l.ports);
  count : vec_len l.numbers ≡ l.port-index;
  room : length l.ports ≤ vec_capacity l.numbers;
}

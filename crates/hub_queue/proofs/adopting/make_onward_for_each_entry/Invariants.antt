use Rattle.std.proofs.Common.{◌≡◌, ◌+◌, List, ◌++◌, length, reverse}
use Rattle.hub_gate.specs.GateSeats.{EntrySeat}
use Rattle.hub_queue.specs.Mailboxes.{stands_at}
use Rattle.hub_queue.specs.Seats.{LineSeat}
use Rattle.hub_queue.proofs.adopting.make_onward_for_each_entry.Given as goal

abbrev pub invariant-loop-line : goal.invariant-loop-line
invariant-loop-line l = record {
  count : length l.entries.items + l.line ≡ length l.fn.entries.items;
  split : (done : List (EntrySeat LineSeat)) × (l.fn.entries.items ≡ done ++ reverse l.entries.items) × (length done ≡ l.line);
  onwards : l.onwards.items ≡ stands_at l.queue.keeper.gate l.queue.queue l.end l.epoch l.line;
}

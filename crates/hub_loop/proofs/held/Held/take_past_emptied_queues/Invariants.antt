use Rattle.std.proofs.Common.{◌≡◌}
use Rattle.hub_loop.specs.Holding.{behind_of, seat_of}
use Rattle.hub_loop.proofs.Asks.{HasLeft}
use Rattle.hub_loop.proofs.held.Held.take_past_emptied_queues.Given as goal

abbrev pub invariant-loop : goal.invariant-loop
invariant-loop g l = record {
  end : l.end ≡ behind_of (seat_of l.fn.self);
  left : HasLeft l.counter l.fn.self l.self l.fn.steps l.steps;
}

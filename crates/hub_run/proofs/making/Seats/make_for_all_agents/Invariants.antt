use Rattle.std.proofs.Common.{All, ◌≡◌, length, vec_len, ℕ, ◌+◌, ◌<◌, get_or}
use Rattle.std.specs.Vec.Iter.{into_iter_items}
use Rattle.hub_life.specs.OrderSeat.{OrderSeat}
use Rattle.hub_run.specs.Seats.{IsNewSeat}
use Rattle.hub_agent.specs.declared.opening.Seat.{Seat}
use Rattle.hub_run.proofs.Peers.{HavePeers, Pairs}
use Rattle.hub_run.proofs.making.Seats.make_for_all_agents.Given as goal

abbrev pub invariant-loop-number : goal.invariant-loop-number
invariant-loop-number l = record {
  seats : vec_len l.seats ≡ l.number;
  words : vec_len l.words ≡ l.number;
  new : (k : ℕ) (d : Seat) → k < length l.seats.items → IsNewSeat k (get_or l.seats.items k d);
  are : Pairs (λ s w. All (λ (o : OrderSeat). o ≡ s.for_agent) w.0.items) 0 l.seats.items l.words.items;
}

abbrev pub invariant-loop-orders : goal.invariant-loop-orders
invariant-loop-orders l =
    let opened = l.initial.seats.items in
    let rest = into_iter_items l.orders-iterator in
    record {
      count : length opened ≡ l.count;
      new : (k : ℕ) (d : Seat) → k < length opened → IsNewSeat k (get_or opened k d);
      now : (done : ℕ) × (done + length rest ≡ length opened) × Pairs (λ s w. All (λ (o : OrderSeat). o ≡ s.for_agent) w.0.items) done opened rest × HavePeers done opened l.seats.items;
    }

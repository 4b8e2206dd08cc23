use Rattle.std.proofs.Common.{◌≡◌, ◌≤◌, All, length, ℕ, ◌<◌, get_or}
use Rattle.hub_life.specs.OrderSeat.{OrderSeat}
use Rattle.hub_agent.specs.declared.opening.Seat.{Seat}
use Rattle.hub_run.specs.Seats.{GetsPeer}
use Rattle.hub_run.proofs.making.add_peer_agent_to_every_seat.Given as goal

abbrev pub invariant-loop-place : goal.invariant-loop-place
invariant-loop-place l = record {
  count : length l.seats ≡ length l.fn.seats;
  end : l.place-end ≡ length l.fn.seats;
  orders : (seat : OrderSeat) → All (λ (o : OrderSeat). o ≡ seat) l.fn.orders.items → All (λ (o : OrderSeat). o ≡ seat) l.orders.items;
  got : (seat : OrderSeat) → All (λ (o : OrderSeat). o ≡ seat) l.fn.orders.items → (k : ℕ) (d : Seat) → k < l.place → GetsPeer seat (get_or l.fn.seats k d) (get_or l.seats k d);
  same : (k : ℕ) (d : Seat) → l.place ≤ k → get_or l.seats k d ≡ get_or l.fn.seats k d;
}

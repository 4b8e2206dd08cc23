-- How a loop ends.
use Rattle.std.specs.Prelude.{ℕ, ◌==◌, Bool, false, List, [], ◌++◌, map, filter_map, Option, Some, None}
use Rattle.slab.specs.Slab.{Slab, entries}
use Rattle.hub_clients.specs.declared.handed.HandedQueue.{HandedQueue}
use Rattle.hub_ports.specs.Seats.{PortSeat}
use Rattle.hub_queue.specs.Graves.{GraveSeat, SweptSeat}
use Rattle.hub_queue.specs.Taking.{TakerSeat}
use Rattle.hub_loop.specs.declared.held.Held.{Held}
use Rattle.hub_loop.specs.declared.held.Held.TheVariants.{Port}
use Rattle.hub_loop.specs.Holding.{held_queue, seat_of}
use Rattle.hub_loop.specs.States.{ClosingState, DeliveryState, ReceivingState}

-- whoever takes here takes from the end of this number
abbrev pub is_seat_of : ℕ → Option TakerSeat → Bool
is_seat_of e None = false
is_seat_of e (Some t) = t.end == e

-- under this key the end of this number is held
abbrev pub is_held : ℕ → Option Held → Bool
is_held e None = false
is_held e (Some h) = is_seat_of e (seat_of h)

-- the ports that were found for a delivery and not adopted yet
abbrev pub ports_found : Option ReceivingState → List PortSeat
ports_found None = []
ports_found (Some r) = r.found

abbrev pub found_of : Option DeliveryState → List PortSeat
found_of None = []
found_of (Some d) = ports_found d.arrival

-- What is closed when a loop ends: what is held, in the order of the keys, the queues that were fetched, and the ports that were found for a kept delivery.
abbrev pub still_open : Slab Held → List HandedQueue → Option DeliveryState → List Held
still_open held fetched kept = map (λ entry. entry.1) (entries held) ++ map held_queue fetched ++ map Port (found_of kept)

-- the numbers of the ends among these
abbrev pub open_ends : List Held → List ℕ
open_ends all = map (λ t. t.end) (filter_map seat_of all)

-- the numbers of the ends that were swept
abbrev pub swept_ends : List SweptSeat → List ℕ
swept_ends swept = map (λ s. s.end) swept

abbrev pub grave_ends : List GraveSeat → List ℕ
grave_ends graves = map (λ g. g.end) graves

-- the numbers of the ends that were closed and swept, and then of those that are to be swept
abbrev pub closing_ends : ClosingState → List ℕ
closing_ends c = swept_ends c.swept ++ grave_ends c.graves

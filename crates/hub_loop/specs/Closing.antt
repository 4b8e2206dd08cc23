-- How an end that a loop holds is closed.
use Rattle.std.specs.Prelude.{◌≡◌, ℕ, ◌+◌, ◌≤◌, List, filter, not, Option, Some, None, vec_len, vec_capacity}
use Rattle.std.specs.Option.{option_map}
use Rattle.slab.specs.Slab.{Slab}
use Rattle.hub_envelope.specs.declared.ids.EndId.{EndId}
use Rattle.hub_broadcast.specs.Destinations.{is_of_end}
use Rattle.hub_broadcast.specs.Members.{SubscriptionSeat}
use Rattle.hub_ports.specs.Seats.{PortSeat}
use Rattle.hub_queue.specs.Ending.{IsClosed}
use Rattle.hub_queue.specs.Taking.{TakerSeat}
use Rattle.hub_loop.specs.declared.closed.ClosedEnd.{ClosedEnd}
use Rattle.hub_ports.specs.declared.closing.ClosedPort.{ClosedPort}
use Rattle.hub_loop.specs.declared.ending.Closed.{Closed}
use Rattle.hub_loop.specs.declared.held.Held.{Held}
use Rattle.hub_loop.specs.declared.held.Held.TheVariants.{Port, Client, Worker, Member, Line}
use Rattle.hub_loop.specs.Adopting.{HoldsMore}
use Rattle.hub_loop.specs.Holding.{end_held}
use Rattle.hub_ports.specs.Closing.{IsTold}

-- the end was closed, and nothing is told of a port
abbrev pub IsClosedAlone : TakerSeat → ClosedEnd → Type 0
IsClosedAlone t c = IsClosed t c.grave × (c.port ≡ None)

-- the port was closed with its notice
abbrev pub IsPortClosed : PortSeat → ClosedEnd → Type 0
IsPortClosed p c = IsClosed p.taker c.grave × ((told : ClosedPort) × (c.port ≡ Some told) × IsTold p told)

-- The end was closed, a port with its notice. A line is no end.
abbrev pub IsEndClosed : Held → ClosedEnd → Type 0
IsEndClosed (Port p) c = IsPortClosed p c
IsEndClosed (Client t) c = IsClosedAlone t c
IsEndClosed (Worker t) c = IsClosedAlone t c
IsEndClosed (Member m) c = IsClosedAlone m.taker c
IsEndClosed (Line s) c = ⊥

-- there is room for so many more graves, notices and lines
abbrev pub HasRoom : Closed → ℕ → Type 0
HasRoom c more =
    (vec_len c.graves + more ≤ vec_capacity c.graves) × (vec_len c.noticed + more ≤ vec_capacity c.noticed) × (vec_len c.lines + more ≤ vec_capacity c.lines)

-- the roster that is shown once this was closed: a member has left it
abbrev pub left_by : Held → Option (List SubscriptionSeat) → Option (List SubscriptionSeat)
left_by (Member m) roster = option_map (filter (λ s. not (is_of_end (record { 0 = m.taker.end }) s))) roster
left_by (Port p) roster = roster
left_by (Client t) roster = roster
left_by (Worker t) roster = roster
left_by (Line s) roster = roster

-- The end of this number is held no more: it was closed, and a member has left the roster, which was and is now shown so.
abbrev pub ClosesEnd : Slab Held → Slab Held → Option (List SubscriptionSeat) → Option (List SubscriptionSeat) → EndId → ClosedEnd → Type 0
ClosesEnd old new was now end c = (held : Held) × (end_held held ≡ Some end) × HoldsMore new old held × IsEndClosed held c × (now ≡ left_by held was)

-- How an end that a loop holds is started.
use Rattle.std.specs.Prelude.{◌≡◌, ℕ, Bool, true, false, Some, None}
use Rattle.slab.specs.Slab.{Slab, get, with_value}
use Rattle.hub_envelope.specs.declared.ids.EndId.{EndId}
use Rattle.hub_ports.specs.Seats.{PortSeat, end_of}
use Rattle.hub_queue.specs.Taking.{TakerSeat, started}
use Rattle.hub_loop.specs.declared.held.Held.{Held}
use Rattle.hub_loop.specs.declared.held.Held.TheVariants.{Port, Client, Worker, Member, Line}
use Rattle.hub_loop.specs.declared.held.Sought.{Sought}
use Rattle.hub_loop.specs.Looking.{HoldsNoClient, HoldsNoPort, IsEndOf, IsFound}

-- the port or the client's queue with its newest gate enabled; nothing else is started
abbrev pub started_held : Held → Held
started_held (Port p) = Port (record p { taker = started p.taker })
started_held (Client t) = Client (started t)
started_held (Worker t) = Worker t
started_held (Member m) = Member m
started_held (Line s) = Line s

-- The end of this kind and number was started under the very key where it is held. False: none is held, and nothing has changed.
abbrev pub IsStartedAs : Sought → Slab Held → Slab Held → EndId → Bool → Type 0
IsStartedAs kind old new end true =
    (key : ℕ) × (held : Held) × (get old key ≡ Some held) × IsEndOf kind end held × (new ≡ with_value old key (started_held held))
IsStartedAs kind old new end false = IsFound (IsEndOf kind end) old None × (new ≡ old)

-- The port of this number was started, and nothing else that is held has changed. False: no such port is held.
abbrev pub StartsPort : Slab Held → Slab Held → EndId → Bool → Type 0
StartsPort old new end true =
    (key : ℕ) × (port : PortSeat) × (get old key ≡ Some (Port port)) × (end_of port ≡ end)
    × (new ≡ with_value old key (Port (record port { taker = started port.taker })))
StartsPort old new end false = HoldsNoPort old end × (new ≡ old)

-- the same of the client's queue of this number
abbrev pub StartsClient : Slab Held → Slab Held → EndId → Bool → Type 0
StartsClient old new end true =
    (key : ℕ) × (queue : TakerSeat) × (get old key ≡ Some (Client queue)) × (queue.end ≡ end.0)
    × (new ≡ with_value old key (Client (started queue)))
StartsClient old new end false = HoldsNoClient old end × (new ≡ old)

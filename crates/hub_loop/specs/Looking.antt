-- What a loop finds where it looks for an end or a line.
use Rattle.std.specs.Prelude.{◌≡◌, ◌≢◌, ℕ, Bool, true, false, Option, Some, None}
use Rattle.slab.specs.Slab.{Slab, get}
use Rattle.hub_broadcast.specs.Members.{MemberSeat}
use Rattle.hub_envelope.specs.declared.ids.EndId.{EndId}
use Rattle.hub_ports.specs.Seats.{PortSeat, end_of}
use Rattle.hub_queue.specs.Standing.{StandSeat}
use Rattle.hub_queue.specs.Taking.{TakerSeat}
use Rattle.hub_loop.specs.declared.held.Held.{Held}
use Rattle.hub_loop.specs.declared.held.Held.TheVariants.{Port, Client, Worker, Member, Line}
use Rattle.hub_loop.specs.declared.held.Sought.{Sought}
use Rattle.hub_loop.specs.declared.held.Sought.TheVariants as kind
use Rattle.hub_loop.specs.declared.posting.Way.{Way}
use Rattle.hub_loop.specs.declared.posting.Way.TheVariants as way
use Rattle.hub_loop.specs.Holding.{end_held, number_held}

-- this is held
abbrev pub Holds : Slab Held → Held → Type 0
Holds slots held = (key : ℕ) × (get slots key ≡ Some held)

-- no port of this number is held
abbrev pub HoldsNoPort : Slab Held → EndId → Type 0
HoldsNoPort slots end = (port : PortSeat) → Holds slots (Port port) → end_of port ≢ end

-- no client's queue of this number is held
abbrev pub HoldsNoClient : Slab Held → EndId → Type 0
HoldsNoClient slots end = (queue : TakerSeat) → Holds slots (Client queue) → queue.end ≢ end.0

-- no member of this number is held
abbrev pub HoldsNoMember : Slab Held → EndId → Type 0
HoldsNoMember slots end = (member : MemberSeat) → Holds slots (Member member) → member.taker.end ≢ end.0

-- no line that posts at the end of this number is held
abbrev pub HoldsNoLine : Slab Held → EndId → Type 0
HoldsNoLine slots end = (line : StandSeat) → Holds slots (Line line) → line.name.end ≢ end

-- no end of this number is held
abbrev pub HoldsNoEnd : Slab Held → EndId → Type 0
HoldsNoEnd slots end = (held : Held) → Holds slots held → end_held held ≢ Some end

-- it is an end of this kind; a line is no end
abbrev pub is_a : Sought → Held → Bool
is_a kind.End (Port p) = true
is_a kind.End (Client t) = true
is_a kind.End (Worker t) = true
is_a kind.End (Member m) = true
is_a kind.End (Line s) = false
is_a kind.Port (Port p) = true
is_a kind.Port (Client t) = false
is_a kind.Port (Worker t) = false
is_a kind.Port (Member m) = false
is_a kind.Port (Line s) = false
is_a kind.Client (Port p) = false
is_a kind.Client (Client t) = true
is_a kind.Client (Worker t) = false
is_a kind.Client (Member m) = false
is_a kind.Client (Line s) = false
is_a kind.Member (Port p) = false
is_a kind.Member (Client t) = false
is_a kind.Member (Worker t) = false
is_a kind.Member (Member m) = true
is_a kind.Member (Line s) = false

-- it is the end of this kind and number
abbrev pub IsEndOf : Sought → EndId → Held → Type 0
IsEndOf kind end held = (is_a kind held ≡ true) × (number_held held ≡ end)

-- it is a line that posts at the end of this number
abbrev pub IsLineTo : EndId → Held → Type 0
IsLineTo end (Port p) = ⊥
IsLineTo end (Client t) = ⊥
IsLineTo end (Worker t) = ⊥
IsLineTo end (Member m) = ⊥
IsLineTo end (Line s) = s.name.end ≡ end

-- it is the port, or a line to the end, over which this goes
abbrev pub IsWay : Way → Held → Type 0
IsWay (way.Port end) = IsEndOf kind.Port end
IsWay (way.Line end) = IsLineTo end

-- no such port or line is held
abbrev pub LacksWay : Way → Slab Held → Type 0
LacksWay way slots = (held : Held) → Holds slots held → IsWay way held → ⊥

-- what is held under this key is such, if anything is
abbrev pub IsSlotOf : (Held → Type 0) → Option Held → Type 0
IsSlotOf Is None = ⊥
IsSlotOf Is (Some held) = Is held

-- What is held under the key is such; no key: nothing is.
abbrev pub IsFound : (Held → Type 0) → Slab Held → Option ℕ → Type 0
IsFound Is slots None = (key : ℕ) → IsSlotOf Is (get slots key) → ⊥
IsFound Is slots (Some key) = IsSlotOf Is (get slots key)

-- What a post or a send of an agent comes to, at the port or the line over which it goes.
use Rattle.std.specs.Prelude.{◌≡◌, ◌≢◌, ◌⊎◌, ℕ, Vec, Bool, false, List, [], ◌∷◌, ◌++◌, count_by, Option, Some, None, Result, Ok, Err}
use Rattle.std.specs.declared.alloc.Global.{Global}
use Rattle.slab.specs.Slab.{Slab}
use Rattle.hub_envelope.specs.declared.ids.AgentId.{AgentId}
use Rattle.hub_envelope.specs.declared.ids.EndId.{EndId}
use Rattle.hub_envelope.specs.declared.posted.Posted.{Posted}
use Rattle.hub_logging.specs.Notes.{Notes}
use Rattle.hub_loop.specs.Adopting.{HoldsMore}
use Rattle.hub_loop.specs.Holding.{end_held}
use Rattle.hub_loop.specs.Looking.{Holds, HoldsNoEnd, LacksWay}
use Rattle.hub_loop.specs.Posting.{PostsThrough}
use Rattle.hub_loop.specs.declared.posting.Way.{Way}
use Rattle.hub_loop.specs.declared.posting.Way.TheVariants as way
use Rattle.hub_loop.specs.declared.held.Held.{Held}
use Rattle.hub_loop.specs.declared.held.Held.TheVariants as held
use Rattle.hub_ports.specs.Seats.{PortSeat, ends_of}
use Rattle.hub_ports.specs.declared.error.PortError.{PortError}
use Rattle.hub_ports.specs.declared.error.PortError.TheVariants as error
use Rattle.hub_queue.specs.Standing.{StandSeat}
use Rattle.hub_agent.specs.Entries.{WritesEntries, answer_entries}

-- the ports that come back with the answer to a post
abbrev pub given_back : Result Posted PortError → List PortSeat
given_back (Ok posted) = []
given_back (Err (error.Doomed closings)) = []
given_back (Err (error.Closed body ports)) = ports.items
given_back (Err (error.Moving body ports)) = ports.items
given_back (Err (error.OutOfMemory body ports)) = ports.items
given_back (Err (error.TooManyPorts body ports)) = ports.items
given_back (Err (error.Strayed missing body ports)) = ports.items
given_back (Err (error.Taken body ports)) = ports.items

-- These ports were taken out, one after another, and are held no more.
abbrev pub TakesOut : List PortSeat → Slab Held → Slab Held → Type 0
TakesOut [] old new = new ≡ old
TakesOut (port ∷ ports) old new = (less : Slab Held) × HoldsMore less old (held.Port port) × TakesOut ports less new

-- These ports are held besides, one after another.
abbrev pub HoldsEach : List PortSeat → Slab Held → Slab Held → Type 0
HoldsEach [] old new = new ≡ old
HoldsEach (port ∷ ports) old new = (more : Slab Held) × HoldsMore old more (held.Port port) × HoldsEach ports more new

-- what stands under a key passes the test
abbrev pub passes : (Held → Bool) → Option Held → Bool
passes test None = false
passes test (Some h) = test h

-- The same ends and lines are held, each as it was: as many pass any test.
abbrev pub HoldsAlike : Slab Held → Slab Held → Type 0
HoldsAlike old new = (test : Held → Bool) → count_by (passes test) new.slots ≡ count_by (passes test) old.slots

-- A line to the queue is held besides, or the same is held.
abbrev pub HasLine : EndId → Slab Held → Slab Held → Type 0
HasLine queue old new = (new ≡ old) ⊎ ((line : StandSeat) × (line.name.end ≡ queue) × HoldsMore old new (held.Line line))

-- no end of this number is held, or one that is no port
abbrev pub LacksPort : Slab Held → EndId → Type 0
LacksPort slots end = HoldsNoEnd slots end ⊎ ((h : Held) × Holds slots h × (end_held h ≡ Some end) × ((port : PortSeat) → h ≢ held.Port port))

-- behind these ports the list goes on with one that is lacking
abbrev pub LacksNext : List EndId → List PortSeat → Slab Held → Type 0
LacksNext ends ports slots = (end : EndId) × (later : List EndId) × (ends ≡ ends_of ports ++ end ∷ later) × LacksPort slots end

-- Of a list the first ports were taken out, and the next one was lacking; all is held as before.
abbrev pub LacksOne : List EndId → Slab Held → Slab Held → Type 0
LacksOne ends old new = HoldsAlike old new × ((ports : List PortSeat) × (out : Slab Held) × TakesOut ports old out × LacksNext ends ports out)

-- It was sent; or the port or the line isn't held, and all came back as at an end that is closed.
abbrev pub SendsOrReturns : Way → AgentId → List ℕ → Vec PortSeat Global → Slab Held → Slab Held → Result Posted PortError → Type 0
SendsOrReturns w agent body ports old new answer =
    PostsThrough agent body ports.items w old new answer ⊎ (LacksWay w old × (new ≡ old) × (answer ≡ Err (error.Closed body ports)))

-- The ports of the list were taken out and sent. Those that the answer gives back are held again, and what the answer says is written.
abbrev pub HasSent : Way → List EndId → List ℕ → Slab Held → Slab Held → Notes → Notes → Type 0
HasSent w transfer body old new before now =
    (ports : List PortSeat) × (answer : Result Posted PortError) × (out : Slab Held) × (sent : Slab Held)
    × (ends_of ports ≡ transfer) × TakesOut ports old out × PostsThrough before.log.0 body ports w out sent answer × HoldsEach (given_back answer) sent new
    × WritesEntries (answer_entries transfer body answer) before now

-- Some ports were taken out, and then what is needed was lacking: nothing was sent or written, and all is held as before.
abbrev pub HasSkipped : Way → List EndId → Slab Held → Slab Held → Notes → Notes → Type 0
HasSkipped w transfer old new before now =
    WritesEntries [] before now × HoldsAlike old new
    × ((ports : List PortSeat) × (out : Slab Held) × TakesOut ports old out × (LacksNext transfer ports out ⊎ LacksWay w out))

-- what a post comes to
abbrev pub PostsOver : Way → List EndId → List ℕ → Slab Held → Slab Held → Notes → Notes → Type 0
PostsOver w transfer body old new before now = HasSent w transfer body old new before now ⊎ HasSkipped w transfer old new before now

-- a send to the queue, over a line that the agent may have got before
abbrev pub SendsTo : EndId → List EndId → List ℕ → Slab Held → Slab Held → Notes → Notes → Type 0
SendsTo queue transfer body old new before now =
    (lined : Slab Held) × HasLine queue old lined × PostsOver (way.Line queue) transfer body lined new before now

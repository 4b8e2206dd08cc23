-- Queues that go from one agent to another.
use Rattle.std.specs.Prelude.{◌≡◌, ℕ, List, [], ◌∷◌, ◌++◌, Option, Some, Result, Ok, Err}
use Rattle.std.specs.FinMap as map
use Rattle.hub_depot.specs.declared.kept_map.Key.{Key}
use Rattle.hub_depot.specs.Key.{key_cmp}
use Rattle.hub_envelope.specs.declared.ids.AgentId.{AgentId}
use Rattle.hub_queue.specs.declared.error.AdoptError.{AdoptError}
use Rattle.hub_queue.specs.Adopting.{IsAdopted}
use Rattle.hub_queue.specs.Ending.{IsClosed}
use Rattle.hub_queue.specs.Graves.{GraveSeat}
use Rattle.hub_queue.specs.Taking.{TakerSeat, started}
use Rattle.hub_clients.specs.declared.handed.Handed.{Handed}
use Rattle.hub_clients.specs.declared.handed.HandedQueue.{HandedQueue}
use Rattle.hub_clients.specs.declared.handed.HandedQueue.TheVariants.{Client, Worker}

-- whoever takes from the queue
abbrev pub taker_of : HandedQueue → TakerSeat
taker_of (Client taker) = taker
taker_of (Worker taker) = taker

-- the name under which the queue of this number waits for this agent
abbrev pub handed_name : ℕ → AgentId → Key
handed_name end to = record { end = record { 0 = end }; epoch = to.0; line = record { 0 = 0 } }

-- the queue as it waits for this agent
abbrev pub handed_to : AgentId → HandedQueue → Handed
handed_to to queue = record { queue = queue; to = to }

-- Ok: the end has moved on, and then its newest gate was enabled. Err: as of an adoption.
abbrev pub IsAdoptedAndStarted : TakerSeat → Result TakerSeat (AdoptError × TakerSeat) → Type 0
IsAdoptedAndStarted old (Ok new) = (moved : TakerSeat) × IsAdopted old (Ok moved) × (new ≡ started moved)
IsAdoptedAndStarted old (Err refused) = IsAdopted old (Err refused)

-- Ok: the queue's end has moved on, and a worker's was enabled then. Err: it comes back as it was.
abbrev pub IsHandedAdopted : HandedQueue → Result HandedQueue (AdoptError × HandedQueue) → Type 0
IsHandedAdopted (Client t) (Ok q) = (u : TakerSeat) × (q ≡ Client u) × IsAdopted t (Ok u)
IsHandedAdopted (Worker t) (Ok q) = (u : TakerSeat) × (q ≡ Worker u) × IsAdoptedAndStarted t (Ok u)
IsHandedAdopted q (Err refused) = (refused.1 ≡ q) × IsAdopted (taker_of q) (Err (refused.0, taker_of q))

-- the queues that wait, each under its name
abbrev pub Waiting : Type 0
Waiting = map.FinMap key_cmp Handed

-- the name under which the queue waits
abbrev pub waiting_name : Handed → Key
waiting_name h = handed_name (taker_of h.queue).end h.to

-- so many queues were taken out of what waits, one after another, and the end of each was closed
abbrev pub ClosesTo : Waiting → Waiting → List GraveSeat → Type 0
ClosesTo waiting now [] = now ≡ waiting
ClosesTo waiting now (g ∷ gs) = (h : Handed) × (map.get waiting (waiting_name h) ≡ Some h) × IsClosed (taker_of h.queue) g × ClosesTo (map.remove waiting (waiting_name h)) now gs

-- whoever is told was told of each, of which these still wait
abbrev pub AreToldClosed : Waiting → Waiting → List GraveSeat → Option (List GraveSeat) → Type 0
AreToldClosed waiting now before after = (graves : List GraveSeat) × (after ≡ Some (before ++ graves)) × ClosesTo waiting now graves

-- What becomes of a port that is closed, and of its notice.
use Rattle.std.specs.Prelude.{◌≡◌, ◌⊎◌, List, [], ◌∷◌, ◌++◌, Option, Some, None, Ok, Err}
use Rattle.std.specs.FinMap as map
use Rattle.hub_envelope.specs.Notice.{notice_draft}
use Rattle.hub_queue.specs.declared.error.PostError.TheVariants as why
use Rattle.hub_queue.specs.Ending.{closed_queue}
use Rattle.hub_queue.specs.Graves.{GraveSeat, SweptSeat}
use Rattle.hub_queue.specs.Left.{unrung}
use Rattle.hub_queue.specs.Posting.{IsPosted}
use Rattle.hub_queue.specs.Standing.{StandSeat}
use Rattle.hub_queue.specs.Sweeping.{IsSweptOut}
use Rattle.hub_queue.specs.TakerQueues.{TakerQueueSeat}
use Rattle.hub_queue.specs.Taking.{TakerSeat}
use Rattle.hub_ports.specs.declared.closing.ClosedPort.{ClosedPort}
use Rattle.hub_ports.specs.declared.closing.Noticed.{Noticed}
use Rattle.hub_ports.specs.declared.closing.Noticed.TheVariants.{Put, PeerClosed, Moving, OutOfMemory}
use Rattle.hub_ports.specs.Arriving.{Flight}
use Rattle.hub_ports.specs.Seats.{PortSeat, end_of, place_of}

-- Put: what the line has put grew by the notice under that name. Else it is unchanged, and the notice was refused for this reason: closed and moving only where the line was turned in this call and found that flag. Out of memory: the line refused it, or there was no memory for the notice itself.
abbrev pub IsNoticed : StandSeat → StandSeat → Noticed → Type 0
IsNoticed old new (Put posted) = IsPosted old new notice_draft (Ok posted)
IsNoticed old new PeerClosed = IsPosted old new notice_draft (Err (why.Closed, notice_draft))
IsNoticed old new Moving = IsPosted old new notice_draft (Err (why.Moving, notice_draft))
IsNoticed old new OutOfMemory = IsPosted old new notice_draft (Err (why.OutOfMemory, notice_draft)) ⊎ (new ≡ old)

-- what shows the newest queue of the port, as it is closed once more
abbrev pub IsShutAs : PortSeat → Option TakerQueueSeat → Type 0
IsShutAs p queue = queue ≡ Some (closed_queue p.taker.newest)

-- what shows the line of the port, on which the notice was put or refused as is told; what its bell has done isn't shown
abbrev pub IsLeftAs : PortSeat → Option StandSeat → Noticed → Type 0
IsLeftAs p line noticed = (spent : StandSeat) × (line ≡ Some spent) × IsNoticed (unrung p.poster) spent noticed

-- the port was closed: its number, its line, and what became there of its notice
abbrev pub IsTold : PortSeat → ClosedPort → Type 0
IsTold p c = (c.end ≡ end_of p) × IsLeftAs p c.line c.noticed

-- a doomed message has closed the port, and with it its own end
abbrev pub IsDoomedAs : PortSeat → ClosedPort → Type 0
IsDoomedAs p c = IsTold p c × IsShutAs p c.queue

-- each port of a list was closed, in this order
abbrev pub AreDoomed : List PortSeat → List ClosedPort → Type 0
AreDoomed [] closings = closings ≡ []
AreDoomed (p ∷ ps) closings =
    (closing : ClosedPort) × (rest : List ClosedPort) × (closings ≡ closing ∷ rest) × IsDoomedAs p closing × AreDoomed ps rest

-- what is left of an end that was emptied, and, where it was a port's that was closed in this call, its line and what became of its notice
abbrev pub Emptied : Type 0
Emptied = SweptSeat × Option (StandSeat × Noticed)

-- the end of a port, closed and not yet swept
abbrev pub grave_left : TakerSeat → GraveSeat
grave_left t = record { end = t.end; epoch = t.epoch; queues = t.retired ++ closed_queue t.newest ∷ []; envelopes = [] }

-- the port was closed, with its notice, and its end emptied
abbrev pub IsEmptiedAs : PortSeat → Emptied → Type 0
IsEmptiedAs p e = (line : StandSeat) × (noticed : Noticed) × (e.1 ≡ Some (line, noticed)) × IsNoticed p.poster line noticed × IsSweptOut (grave_left p.taker) e.0

-- so many ports were taken out of the flight, one after another, and each was emptied so
abbrev pub EmptiesTo : Flight → Flight → List Emptied → Type 0
EmptiesTo flight now [] = now ≡ flight
EmptiesTo flight now (e ∷ es) = (p : PortSeat) × (map.get flight (place_of (end_of p)) ≡ Some p) × IsEmptiedAs p e × EmptiesTo (map.remove flight (place_of (end_of p))) now es

-- the grave of an earlier call was emptied, where there was one
abbrev pub IsEmptiedFirst : Option GraveSeat → List Emptied → Type 0
IsEmptiedFirst None es = es ≡ []
IsEmptiedFirst (Some g) es = (s : SweptSeat) × (es ≡ (s, None) ∷ []) × IsSweptOut g s

-- whoever is told was told of the grave first, and then of each port, of which these are left in flight
abbrev pub AreToldEmptied : Option GraveSeat → Flight → Flight → List Emptied → Option (List Emptied) → Type 0
AreToldEmptied grave flight now before after = (first : List Emptied) × (rest : List Emptied) × (after ≡ Some ((before ++ first) ++ rest)) × IsEmptiedFirst grave first × EmptiesTo flight now rest

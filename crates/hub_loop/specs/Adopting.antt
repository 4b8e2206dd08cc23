-- What becomes of the ports that a delivery brings, and of a queue that was fetched.
use Rattle.std.specs.Prelude.{◌≡◌, ◌⊎◌, ℕ, true, false, List, [], ◌∷◌, ◌++◌, Some, None, Result, Ok, Err, Bool}
use Rattle.std.specs.List.Sorted.{IsPermutation}
use Rattle.slab.specs.Slab.{Slab, get, Updates, SameValues}
use Rattle.hub_clients.specs.declared.handed.HandedQueue.{HandedQueue}
use Rattle.hub_clients.specs.Handing.{taker_of, IsHandedAdopted}
use Rattle.hub_envelope.specs.declared.ids.EndId.{EndId}
use Rattle.hub_ports.specs.Adopting.{IsReceived}
use Rattle.hub_ports.specs.Seats.{PortSeat, end_of}
use Rattle.hub_queue.specs.declared.error.AdoptError.{AdoptError}
use Rattle.hub_queue.specs.declared.error.AdoptError.TheVariants as why
use Rattle.hub_queue.specs.Ending.{IsClosed}
use Rattle.hub_queue.specs.Graves.{GraveSeat}
use Rattle.hub_ports.specs.declared.closing.ClosedPort.{ClosedPort}
use Rattle.hub_loop.specs.declared.held.Held.{Held}
use Rattle.hub_loop.specs.declared.held.Held.TheVariants.{Port}
use Rattle.hub_loop.specs.Holding.{held_queue}
use Rattle.hub_loop.specs.States.{ClosedState, HoldingState, ReceivingState}
use Rattle.hub_ports.specs.Closing.{IsTold}

-- What is held grew by this, under a key where nothing was held.
abbrev pub HoldsMore : Slab Held → Slab Held → Held → Type 0
HoldsMore old new h = (key : ℕ) × (get old key ≡ None) × Updates old new key (Some h)

-- the same graves are kept, and the same notices
abbrev pub SameClosed : ClosedState → ClosedState → Type 0
SameClosed old new = (new.graves ≡ old.graves) × (new.noticed ≡ old.noticed)

-- the same is held, and the same was closed
pub record SameStored (old new : HoldingState) : Type 0 where
  pub held : SameValues old.ends.held new.ends.held
  pub closed : SameClosed old.closed new.closed

-- the adoption was refused for good
abbrev pub IsUnfit : AdoptError → Type 0
IsUnfit why.OutOfMemory = ⊥
IsUnfit why.TooManyMoves = Unit {0}
IsUnfit why.Taken = Unit {0}

-- The port was closed with its notice: it is kept, and its grave.
abbrev pub IsPortBuried : PortSeat → ClosedState → ClosedState → Type 0
IsPortBuried p old new =
    (grave : GraveSeat) × (told : ClosedPort) × IsClosed p.taker grave × IsTold p told
    × (new.graves ≡ old.graves ++ grave ∷ []) × (new.noticed ≡ old.noticed ++ told ∷ [])

-- The queue was closed: its grave is kept.
abbrev pub IsQueueBuried : HandedQueue → ClosedState → ClosedState → Type 0
IsQueueBuried q old new =
    (grave : GraveSeat) × IsClosed (taker_of q) grave × (new.graves ≡ old.graves ++ grave ∷ []) × (new.noticed ≡ old.noticed)

-- One port more was adopted and is held; or it was refused for good: it was closed, and counts as missing.
abbrev pub IsOneAdopted : PortSeat → HoldingState → HoldingState → List EndId → List EndId → Type 0
IsOneAdopted p old new before after =
    ((q : PortSeat) × IsReceived p (Ok q) × HoldsMore old.ends.held new.ends.held (Port q) × SameClosed old.closed new.closed × (after ≡ before))
    ⊎ ((error : AdoptError) × IsUnfit error × IsReceived p (Err (error, p)) × SameValues old.ends.held new.ends.held × IsPortBuried p old.closed new.closed × (after ≡ before ++ end_of p ∷ []))

-- The ports were adopted in order; those that were refused for good joined the missing ones.
abbrev pub AreAdopted : List PortSeat → HoldingState → HoldingState → List EndId → List EndId → Type 0
AreAdopted [] old new before after = SameStored old new × (after ≡ before)
AreAdopted (p ∷ ps) old new before after =
    (middle : HoldingState) × (missing : List EndId) × IsOneAdopted p old middle before missing × AreAdopted ps middle new missing after

-- The first of the ports that were found is found no more; true: it was adopted or refused for good; false: there is none. After an error all is as it was.
abbrev pub IsFirstAdopted : {E : Type 0} → ReceivingState → ReceivingState → HoldingState → HoldingState → Result Bool E → Type 0
IsFirstAdopted old new before after (Ok true) =
    (p : PortSeat) × (old.found ≡ p ∷ new.found) × IsOneAdopted p before after old.missing new.missing
IsFirstAdopted old new before after (Ok false) =
    (old.found ≡ []) × (new.found ≡ []) × SameStored before after × (new.missing ≡ old.missing)
IsFirstAdopted old new before after (Err error) =
    (new.found ≡ old.found) × SameStored before after × (new.missing ≡ old.missing)

-- These were adopted or refused for good, and the others are still found.
abbrev pub ArePartlyAdopted : ReceivingState → ReceivingState → HoldingState → HoldingState → List PortSeat → Type 0
ArePartlyAdopted old new before after done =
    (old.found ≡ done ++ new.found) × AreAdopted done before after old.missing new.missing

-- Ok: no port is left among those that were found. After an error some may be.
abbrev pub AreAllAdopted : {E : Type 0} → ReceivingState → ReceivingState → HoldingState → HoldingState → Result (Unit {0}) E → Type 0
AreAllAdopted old new before after (Ok all) = (new.found ≡ []) × AreAdopted old.found before after old.missing new.missing
AreAllAdopted old new before after (Err error) = (done : List PortSeat) × ArePartlyAdopted old new before after done

-- True: the queue was adopted and is held. False: it was refused for good and closed.
abbrev pub IsQueueAdopted : HandedQueue → HoldingState → HoldingState → Bool → Type 0
IsQueueAdopted q old new true =
    (adopted : HandedQueue) × IsHandedAdopted q (Ok adopted) × HoldsMore old.ends.held new.ends.held (held_queue adopted) × SameClosed old.closed new.closed
IsQueueAdopted q old new false =
    (error : AdoptError) × IsUnfit error × IsHandedAdopted q (Err (error, q)) × SameValues old.ends.held new.ends.held × IsQueueBuried q old.closed new.closed

-- Of the queues that were fetched this one was taken out, or they are as they were.
abbrev pub IsTakenFrom : HandedQueue → List HandedQueue → List HandedQueue → Type 0
IsTakenFrom q old new = (new ≡ old) ⊎ IsPermutation old (q ∷ new)

-- The queues that were fetched before are kept, but for one of this number: it may be gone, and one of that number may be kept in its place.
abbrev pub KeepsOthers : EndId → List HandedQueue → List HandedQueue → Type 0
KeepsOthers end old new = (new ≡ old)
    ⊎ ((q : HandedQueue) × (rest : List HandedQueue) × ((taker_of q).end ≡ end.0) × IsTakenFrom q old rest × ((new ≡ rest) ⊎ (new ≡ rest ++ q ∷ [])))

-- The queues that were fetched before are kept, in some order; one of this number may be kept beside them.
abbrev pub KeepsFetched : EndId → List HandedQueue → List HandedQueue → Type 0
KeepsFetched end old new = IsPermutation old new ⊎ ((q : HandedQueue) × ((taker_of q).end ≡ end.0) × IsPermutation (q ∷ old) new)

-- A queue of this number was adopted and is held, or it was refused for good and closed; false: or none was there.
abbrev pub IsFetched : Bool → HoldingState → HoldingState → EndId → Type 0
IsFetched true old new end = (q : HandedQueue) × ((taker_of q).end ≡ end.0) × IsQueueAdopted q old new true
IsFetched false old new end = SameStored old new ⊎ ((q : HandedQueue) × ((taker_of q).end ≡ end.0) × IsQueueAdopted q old new false)

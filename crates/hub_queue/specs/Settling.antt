-- How the passes of all lines of a queue come into the taker's hand, and what is left there is taken.
use Rattle.std.specs.Prelude.{◌≡◌, ℕ, ◌<◌, Bool, true, false, List, [], ◌++◌, map, Option, Result, Ok, Err, OnOk}
use Rattle.hub_envelope.specs.declared.envelope.Envelope.{Envelope}
use Rattle.hub_gate.specs.GateSeats.{KeeperSeat}
use Rattle.hub_gate.specs.GatePlays.{looked_keeper}
use Rattle.hub_queue.specs.declared.store.TakeView.{TakeView}
use Rattle.hub_queue.specs.PassSteps.{ShowsHeld, AccountsFor}
use Rattle.hub_queue.specs.TakerQueues.{TakerQueueSeat, KnowsAll, TakesThese, IsHeldUp, IsQueueSettled, IsShut}
use Rattle.hub_queue.specs.Popping.{IsPop}
use Rattle.hub_queue.specs.Seats.{LineSeat}
use Rattle.hub_queue.specs.declared.settling.Stop.{Stop}
use Rattle.hub_queue.specs.declared.settling.Stop.TheVariants.{StillInside, NoRoom}

-- the passes of these rights were taken in, of which the first is known first
abbrev pub knowing : TakeView → List LineSeat → TakeView
knowing t rights = record { end = t.end; epoch = t.epoch; lines = t.lines; got = t.got; known = map (λ r. r.at) rights ++ t.known }

-- the keeper after a look that found this word
abbrev pub after_look : KeeperSeat LineSeat → ℕ → Bool → KeeperSeat LineSeat
after_look keeper word collected = record { gate = keeper.gate; at = looked_keeper keeper.at word collected }

-- One look. Settled: all rights came into hand, now or before, and with them the passes of all lines. Else it found somebody inside or being turned back, and nothing else has changed.
abbrev pub IsSettling : TakerQueueSeat → TakerQueueSeat → Bool → Type 0
IsSettling old new true = (word : ℕ) × (rights : List LineSeat) × (new ≡ record { queue = old.queue; at = knowing old.at rights; keeper = after_look old.keeper word true }) × KnowsAll new.at
IsSettling old new false = (word : ℕ) × (new ≡ record { queue = old.queue; at = old.at; keeper = after_look old.keeper word old.keeper.at.collected }) × (0 < new.keeper.at.found)

-- one pop, which changes nothing but what was taken
abbrev pub IsQueuePop : TakerQueueSeat → TakerQueueSeat → Option Envelope → Type 0
IsQueuePop old new found = (new ≡ record { queue = old.queue; at = new.at; keeper = old.keeper }) × IsPop old.at new.at found

-- these were taken more
abbrev pub got_all : TakeView → List Envelope → TakeView
got_all t more = record { end = t.end; epoch = t.epoch; lines = t.lines; got = t.got ++ more; known = t.known }

-- A state of the queue machine that holds nothing has taken what was taken here, and of each line whose pass was taken in, what was taken is what it has put.
abbrev pub IsEmptyHanded : TakeView → Type 0
IsEmptyHanded t = ShowsHeld t [] × AccountsFor t []

-- What was taken was added to the list. Ok: a pop found none.
abbrev pub IsCollected : {E : Type 0} → TakerQueueSeat → TakerQueueSeat → List Envelope → List Envelope → Result (Unit {0}) E → Type 0
IsCollected old new before after answer = (more : List Envelope) × (new ≡ record { queue = old.queue; at = got_all old.at more; keeper = old.keeper }) × (after ≡ before ++ more) × OnOk answer (IsEmptyHanded new.at)

-- why a closed queue isn't empty for good yet
abbrev pub IsStopped : TakerQueueSeat → TakerQueueSeat → List Envelope → Stop → Type 0
IsStopped old new more StillInside = IsHeldUp old new × (more ≡ [])
IsStopped old new more NoRoom = Unit {0}

-- What was taken was added to the list. Ok: everything that was put was taken.
abbrev pub IsEmptied : TakerQueueSeat → TakerQueueSeat → List Envelope → List Envelope → Result (Unit {0}) Stop → Type 0
IsEmptied old new before after (Ok done) = (more : List Envelope) × (after ≡ before ++ more) × TakesThese old new more × IsShut new × IsQueueSettled new
IsEmptied old new before after (Err stop) = (more : List Envelope) × (after ≡ before ++ more) × TakesThese old new more × IsShut new × IsStopped old new more stop

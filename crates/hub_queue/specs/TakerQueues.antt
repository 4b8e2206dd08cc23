-- A queue as the end sees it that takes from it.
use Rattle.std.specs.Prelude.{◌≡◌, ℕ, zero, suc, ◌+◌, ◌<◌, ◌≤◌, Bool, true, false, List, [], ◌∷◌, ◌++◌, length, slice_get, slice_index_or, Some}
use Rattle.atomic_blocks.specs.Laid.{WebId}
use Rattle.hub_envelope.specs.declared.envelope.Envelope.{Envelope}
use Rattle.hub_core.specs.Sender.{by}
use Rattle.hub_envelope.specs.declared.limits.TheConstants.{MAX_LINES}
use Rattle.hub_gate.specs.GateRule.{Tags}
use Rattle.hub_gate.specs.GatePlays.{has_shut}
use Rattle.hub_gate.specs.GateSeats.{KeeperSeat}
use Rattle.hub_queue.specs.declared.store.PutView.{PutView}
use Rattle.hub_queue.specs.declared.store.TakeView.{TakeView}
use Rattle.hub_queue.specs.Seats.{LineSeat}

-- which queue it is, what the taker's pass knows of it, and what the keeper of its gate knows
pub record TakerQueueSeat : Type 0 where
  pub queue : WebId
  pub at : TakeView
  pub keeper : KeeperSeat LineSeat

-- the tags of the rights of the first lines of a queue
abbrev pub tags_of : WebId → ℕ → Tags
tags_of web zero = []
tags_of web (suc line) = tags_of web line ++ (web.0 ∷ web.1 ∷ line ∷ []) ∷ []

-- for each line, how many envelopes of it were taken
abbrev pub CountsTaken : List Envelope → List ℕ → Type 0
CountsTaken got taken = (line : ℕ) → line < MAX_LINES → slice_index_or taken line 0 ≡ length (by line got)

-- the rights of the gate are those of the lines of this queue, of which there are at most so many as a gate may have
pub record HasTags (web : WebId) (at : TakeView) (keeper : KeeperSeat LineSeat) : Type 0 where
  pub tags : keeper.at.tags ≡ tags_of web at.lines
  pub few : at.lines ≤ MAX_LINES

-- the passes of all lines were taken in, in the order of the lines
abbrev pub KnowsAll : TakeView → Type 0
KnowsAll t = (line : ℕ) → line < t.lines → (k : PutView) × (slice_get t.known line ≡ Some k) × (k.line ≡ line)

-- the taker has taken in the passes of all lines where the gate has given the rights, and else none
abbrev pub KnowsBy : Bool → TakeView → Type 0
KnowsBy true t = KnowsAll t
KnowsBy false t = t.known ≡ []

-- the gate is retired or closed
abbrev pub IsShut : TakerQueueSeat → Type 0
IsShut p = has_shut p.keeper.at ≡ true

-- the queue is that of this end and epoch
abbrev pub IsQueueOf : ℕ → ℕ → TakerQueueSeat → Type 0
IsQueueOf end epoch p = (p.at.end ≡ end) × (p.at.epoch ≡ epoch)

-- the same gate, of which the taker has set no flag meanwhile
pub record SameGate (old new : TakerQueueSeat) : Type 0 where
  pub gate : new.keeper.gate ≡ old.keeper.gate
  pub enables : new.keeper.at.enables ≡ old.keeper.at.enables
  pub retires : new.keeper.at.retires ≡ old.keeper.at.retires
  pub closes : new.keeper.at.closes ≡ old.keeper.at.closes

-- the same queue, of which these were taken more
pub record TakesThese (old new : TakerQueueSeat) (more : List Envelope) : Type 0 where
  pub queue : new.queue ≡ old.queue
  pub same_gate : SameGate old new
  pub end : new.at.end ≡ old.at.end
  pub epoch : new.at.epoch ≡ old.at.epoch
  pub lines : new.at.lines ≡ old.at.lines
  pub got : new.at.got ≡ old.at.got ++ more

-- one look found somebody inside or being turned back, and nothing was taken
pub record IsHeldUp (old new : TakerQueueSeat) : Type 0 where
  pub queue : new.queue ≡ old.queue
  pub same_gate : SameGate old new
  pub at : new.at ≡ old.at
  pub looks : new.keeper.at.looks ≡ old.keeper.at.looks + 1
  pub found : 0 < new.keeper.at.found

-- All rights of the queue are in hand, and line by line what was taken is all that was put.
pub record IsQueueSettled (p : TakerQueueSeat) : Type 0 where
  pub collected : p.keeper.at.collected ≡ true
  pub each : (line : ℕ) → line < p.at.lines → (k : PutView) × (slice_get p.at.known line ≡ Some k) × (k.line ≡ line) × (by line p.at.got ≡ k.put)

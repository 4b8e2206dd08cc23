-- What a take comes to.
use Rattle.std.specs.Prelude.{◌≡◌, ◌⊎◌, ℕ, ◌+◌, ◌<◌, ◌≤◌, true, false, List, [], ◌∷◌, length, Option, Some, None}
use Rattle.hub_envelope.specs.declared.envelope.Envelope.{Envelope}
use Rattle.hub_envelope.specs.declared.limits.TheConstants.{MAX_MOVES}
use Rattle.hub_queue.specs.declared.taker.Took.{Took}
use Rattle.hub_queue.specs.declared.taker.Took.TheVariants.{Got, Empty, Busy, Again, Disabled, Closed}
use Rattle.hub_queue.specs.Counting.{Count, pop_counted}
use Rattle.hub_queue.specs.PassSteps.{got_more, IsPopped}
use Rattle.hub_queue.specs.TakerQueues.{TakerQueueSeat, TakesThese, IsHeldUp, IsQueueSettled, IsQueueOf}

-- the gate of the queue is enabled
abbrev pub IsEnabled : TakerQueueSeat → Type 0
IsEnabled p = 0 < p.keeper.at.enables

-- the queue after this was taken from it
abbrev pub taken_from : TakerQueueSeat → Envelope → TakerQueueSeat
taken_from p v = record { queue = p.queue; at = got_more p.at v; keeper = p.keeper }

-- A take at the newest queue of an end. Got: one pop. Empty: one pop, which found none.
abbrev pub IsTakenAt : TakerQueueSeat → TakerQueueSeat → Count → Count → Took → Type 0
IsTakenAt old new before after (Got v) = (new ≡ taken_from old v) × IsPopped old.at v × (after ≡ pop_counted before false)
IsTakenAt old new before after Empty = (new ≡ old) × (after ≡ pop_counted before true)
IsTakenAt old new before after Disabled = ⊥
IsTakenAt old new before after Busy = ⊥
IsTakenAt old new before after Again = ⊥
IsTakenAt old new before after Closed = ⊥

-- A take at a retired queue. Got: one pop. Busy: a look of this call found somebody, and then one pop found none. Again: all rights are in hand, and one pop found none, so that line by line what was taken is all that was put.
abbrev pub IsTakenOff : TakerQueueSeat → TakerQueueSeat → Count → Count → Took → Type 0
IsTakenOff old new before after (Got v) = TakesThese old new (v ∷ []) × IsPopped old.at v × (after ≡ pop_counted before false)
IsTakenOff old new before after Busy = IsHeldUp old new × (after ≡ pop_counted before true)
IsTakenOff old new before after Again = TakesThese old new [] × IsQueueSettled new × (after ≡ pop_counted before true)
IsTakenOff old new before after Empty = ⊥
IsTakenOff old new before after Disabled = ⊥
IsTakenOff old new before after Closed = ⊥

-- the end, the epoch of the taker's queue, the retired queues from the taker's on, the newest queue, and the queue that the taker left last
pub record TakerSeat : Type 0 where
  pub end : ℕ
  pub epoch : ℕ
  pub retired : List TakerQueueSeat
  pub newest : TakerQueueSeat
  pub left : Option TakerQueueSeat

-- the queue where the taker stands, which is its oldest
abbrev pub first_of : List TakerQueueSeat → TakerQueueSeat → TakerQueueSeat
first_of [] newest = newest
first_of (p ∷ ps) newest = p

abbrev pub first_queue : TakerSeat → TakerQueueSeat
first_queue t = first_of t.retired t.newest

-- the queues are those of the end, from this epoch on, and the gate of each is retired
abbrev pub AreRetired : ℕ → ℕ → List TakerQueueSeat → Type 0
AreRetired end epoch [] = Unit {0}
AreRetired end epoch (p ∷ ps) = IsQueueOf end epoch p × (0 < p.keeper.at.retires) × AreRetired end (epoch + 1) ps

-- an end with so many lines, which was adopted at most as often as it may be
pub record IsTakers (lines : ℕ) (t : TakerSeat) : Type 0 where
  pub some : 0 < lines
  pub lines_are : t.newest.at.lines ≡ lines
  pub moves : t.epoch + length t.retired ≤ MAX_MOVES
  pub retired : AreRetired t.end t.epoch t.retired
  pub newest : IsQueueOf t.end (t.epoch + length t.retired) t.newest

-- the queue, whose gate was enabled once more
abbrev pub enabled_queue : TakerQueueSeat → TakerQueueSeat
enabled_queue p = record p { keeper = record p.keeper { at = record p.keeper.at { enables = p.keeper.at.enables + 1 } } }

-- the newest gate was enabled once more, and nothing else has changed
abbrev pub started : TakerSeat → TakerSeat
started t = record t { newest = enabled_queue t.newest }

-- the retired queues after a take at the first of them: where it answers Again the taker has left that queue
abbrev pub left_after : TakerQueueSeat → List TakerQueueSeat → Took → List TakerQueueSeat
left_after q rest Again = rest
left_after q rest _ = q ∷ rest

-- the queue that was left last, after a take at this one
abbrev pub left_last : Option TakerQueueSeat → TakerQueueSeat → Took → Option TakerQueueSeat
left_last left q Again = Some q
left_last left q _ = left

-- This is what a take at the first of these queues comes to, and no other is touched. Where the taker has left the queue it keeps what shows it, and else the queue stands in front.
abbrev pub IsTakenFirst : List TakerQueueSeat → List TakerQueueSeat → Option TakerQueueSeat → Option TakerQueueSeat → Count → Count → Took → Type 0
IsTakenFirst old new was_left left before after took = (p : TakerQueueSeat) × (q : TakerQueueSeat) × (rest : List TakerQueueSeat) × (old ≡ p ∷ rest) × (new ≡ left_after q rest took) × IsTakenOff p q before after took × (left ≡ left_last was_left q took)

-- there is no queue, or the first was taken from
abbrev pub IsTakenOldest : List TakerQueueSeat → List TakerQueueSeat → Option TakerQueueSeat → Option TakerQueueSeat → Count → Count → Option Took → Type 0
IsTakenOldest old new was_left left before after None = (old ≡ []) × (new ≡ old) × (left ≡ was_left) × (after ≡ before)
IsTakenOldest old new was_left left before after (Some took) = IsTakenFirst old new was_left left before after took

-- the epoch of the taker's queue after a take that answers this
abbrev pub epoch_after : ℕ → Took → ℕ
epoch_after epoch Again = epoch + 1
epoch_after epoch _ = epoch

-- there is no retired queue, and this is what a take at the newest one comes to
abbrev pub TakesNewest : TakerSeat → TakerSeat → Count → Count → Took → Type 0
TakesNewest old new before after took = (q : TakerQueueSeat) × (old.retired ≡ []) × (new ≡ record { end = old.end; epoch = old.epoch; retired = []; newest = q; left = old.left }) × IsTakenAt old.newest q before after took

-- there are retired queues, and this is what a take at the first of them comes to
abbrev pub TakesRetired : TakerSeat → TakerSeat → Count → Count → Took → Type 0
TakesRetired old new before after took = (new ≡ record { end = old.end; epoch = epoch_after old.epoch took; retired = new.retired; newest = old.newest; left = new.left }) × IsTakenFirst old.retired new.retired old.left new.left before after took

-- Disabled: exactly where the newest gate isn't enabled, and then nothing is popped. Else the taker takes at its own queue, the oldest one.
abbrev pub IsTaken : TakerSeat → TakerSeat → Count → Count → Took → Type 0
IsTaken old new before after Disabled = (old.newest.keeper.at.enables ≡ 0) × (new ≡ old) × (after ≡ before)
IsTaken old new before after took = IsEnabled old.newest × (TakesNewest old new before after took ⊎ TakesRetired old new before after took)

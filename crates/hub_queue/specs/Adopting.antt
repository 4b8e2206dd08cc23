-- What an adoption comes to.
use Rattle.std.specs.Prelude.{◌≡◌, ◌≢◌, ℕ, ◌+◌, ◌<◌, IsSome, List, [], ◌∷◌, ◌++◌, length, Result, Ok, Err}
use Rattle.hub_envelope.specs.declared.limits.TheConstants.{MAX_MOVES}
use Rattle.hub_queue.specs.declared.error.AdoptError.{AdoptError}
use Rattle.hub_queue.specs.declared.error.AdoptError.TheVariants.{TooManyMoves, Taken, OutOfMemory}
use Rattle.std.specs.FinMap as map
use Rattle.hub_depot.specs.declared.kept_map.Key.{Key}
use Rattle.hub_depot.specs.Key.{key_cmp}
use Rattle.hub_depot.specs.Putting.{with_all}
use Rattle.hub_envelope.specs.declared.ids.EndId.{EndId}
use Rattle.hub_queue.specs.Mailboxes.{stands_at, IsNewTakerQueue}
use Rattle.hub_queue.specs.TakerQueues.{TakerQueueSeat}
use Rattle.hub_queue.specs.Standing.{StandSeat}
use Rattle.hub_queue.specs.Taking.{TakerSeat}

-- the queue, whose gate was retired once more
abbrev pub retired_queue : TakerQueueSeat → TakerQueueSeat
retired_queue p = record p { keeper = record p.keeper { at = record p.keeper.at { retires = p.keeper.at.retires + 1 } } }

-- the epoch of the newest queue, which is how often the end was adopted
abbrev pub newest_epoch : TakerSeat → ℕ
newest_epoch t = t.epoch + length t.retired

-- the gate that was newest was retired once more, and there is one queue more, which is new; the older queues are as they were
pub record IsMoved (old new : TakerSeat) : Type 0 where
  pub new_is : new ≡ record { end = old.end; epoch = old.epoch; retired = old.retired ++ retired_queue old.newest ∷ []; newest = new.newest; left = old.left }
  pub newest : IsNewTakerQueue old.end (newest_epoch old + 1) old.newest.at.lines new.newest

-- the adoption was refused for another reason than too many moves
abbrev pub IsRefused : AdoptError → Type 0
IsRefused TooManyMoves = ⊥
IsRefused Taken = Unit {0}
IsRefused OutOfMemory = Unit {0}

-- too many moves is answered where the end was adopted as often as it may be, and the others elsewhere
abbrev pub IsRefusedAs : ℕ → AdoptError → Type 0
IsRefusedAs moves TooManyMoves = moves ≡ MAX_MOVES
IsRefusedAs moves Taken = moves ≢ MAX_MOVES
IsRefusedAs moves OutOfMemory = moves ≢ MAX_MOVES

-- the stands of the lines at the newest queue of a taker, where nothing was put yet
abbrev pub newest_stands : TakerSeat → List StandSeat
newest_stands t = stands_at t.newest.keeper.gate t.newest.queue (record { 0 = t.end }) (newest_epoch t) t.newest.at.lines

-- the map with a stand more for each line of the newest queue
abbrev pub with_onwards : TakerSeat → map.FinMap key_cmp StandSeat → map.FinMap key_cmp StandSeat
with_onwards t kept = with_all (λ s. s.name) kept (newest_stands t)

-- the name of a line at the queue of this epoch
abbrev pub name_at : EndId → ℕ → ℕ → Key
name_at end epoch line = record { end = end; epoch = epoch; line = record { 0 = line } }

-- the yard keeps a stand under the name of one of so many lines at the queue of this epoch
abbrev pub KeepsName : EndId → ℕ → ℕ → map.FinMap key_cmp StandSeat → Type 0
KeepsName end epoch lines kept = (line : ℕ) × (line < lines) × IsSome (map.get kept (name_at end epoch line))

-- the yard keeps a stand under a name of the queue that an adoption would add
abbrev pub KeepsNext : TakerSeat → map.FinMap key_cmp StandSeat → Type 0
KeepsNext t kept = KeepsName (record { 0 = t.end }) (newest_epoch t + 1) t.newest.at.lines kept

-- Ok: the end has moved, and was not adopted as often as it may be. Err: the taker is as it was.
abbrev pub IsAdopted : TakerSeat → Result TakerSeat (AdoptError × TakerSeat) → Type 0
IsAdopted old (Ok new) = IsMoved old new × (newest_epoch old ≢ MAX_MOVES)
IsAdopted old (Err refused) = (refused.1 ≡ old) × IsRefusedAs (newest_epoch old) refused.0

-- What it comes to that a loop asks an end.
use Rattle.std.specs.Prelude.{◌≡◌, ◌≢◌, ℕ, zero, suc, Option, Some, None}
use Rattle.hub_queue.specs.declared.taker.Took.{Took}
use Rattle.hub_queue.specs.declared.taker.Took.TheVariants.{Again}
use Rattle.hub_queue.specs.Counting.{Count}
use Rattle.hub_queue.specs.Taking.{TakerSeat, IsTaken}
use Rattle.hub_loop.specs.declared.held.Held.{Held}
use Rattle.hub_loop.specs.Holding.{seat_of, with_seat}

-- the taker has left so many queues, each by a take that was answered Again
abbrev pub Leaves : ℕ → TakerSeat → TakerSeat → Count → Count → Type 0
Leaves zero old new before after = (new ≡ old) × (after ≡ before)
Leaves (suc queues) old new before after = (middle : TakerSeat) × (count : Count) × Leaves queues old middle before count × IsTaken middle new count after Again

-- The taker has left the queues from which everything was taken, and then a take was answered otherwise than by Again.
pub record IsAsked (old new : TakerSeat) (before after : Count) (took : Took) : Type 0 where
  pub queues : ℕ
  pub at : TakerSeat
  pub count : Count
  pub left : Leaves queues old at before count
  pub taken : IsTaken at new count after took
  pub last : took ≢ Again

-- a take of what is held: of a line nothing is taken
abbrev pub IsHeldTaken : Held → Held → Count → Count → Option Took → Type 0
IsHeldTaken old new before after None = (seat_of old ≡ None) × (new ≡ old) × (after ≡ before)
IsHeldTaken old new before after (Some took) = (s : TakerSeat) × (t : TakerSeat) × (seat_of old ≡ Some s) × (new ≡ with_seat old t) × IsTaken s t before after took

-- the same of an asking
abbrev pub IsHeldAsked : Held → Held → Count → Count → Option Took → Type 0
IsHeldAsked old new before after None = (seat_of old ≡ None) × (new ≡ old) × (after ≡ before)
IsHeldAsked old new before after (Some took) = (s : TakerSeat) × (t : TakerSeat) × (seat_of old ≡ Some s) × (new ≡ with_seat old t) × IsAsked s t before after took

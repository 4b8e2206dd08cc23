-- What a post at the queue where the line stands comes to, and what becomes of a line that was turned.
use Rattle.std.specs.Prelude.{◌≡◌, ◌⊎◌, ℕ, ◌∷◌, take, Option, Some, Result, Ok, Err}
use Rattle.hub_envelope.specs.declared.envelope.Draft.{Draft}
use Rattle.hub_gate.specs.declared.entry.Refusal.{Refusal}
use Rattle.hub_gate.specs.declared.entry.Refusal.TheVariants as refusal
use Rattle.hub_gate.specs.Entering.{left_seat}
use Rattle.hub_gate.specs.GateSeats.{EntrySeat, InsideSeat, with_right}
use Rattle.hub_envelope.specs.declared.posted.Posted.{Posted}
use Rattle.hub_queue.specs.declared.stand.Tried.{Tried}
use Rattle.hub_queue.specs.declared.stand.Tried.TheVariants.{Answered, Turned}
use Rattle.hub_queue.specs.declared.error.PostError.{PostError}
use Rattle.hub_queue.specs.declared.error.PostError.TheVariants.{Closed, Moving, OutOfMemory}
use Rattle.hub_queue.specs.declared.store.PutView.{PutView}
use Rattle.hub_queue.specs.Posting.{StaysAt, GoesTo, HasSeen, IsSeen, PutsNothing}
use Rattle.hub_queue.specs.Putting.{IsPut, HadNoRoom, LeavesLent, answer_back}
use Rattle.hub_queue.specs.Seats.{LineSeat, IsNameOf}
use Rattle.hub_queue.specs.Standing.{StandSeat, HasNotPushed, put_of}

-- the draft was put, or there was no memory for it
abbrev pub IsAnswered : PutView → PutView → Draft → Result Posted (PostError × Draft) → Type 0
IsAnswered old new draft (Ok posted) = IsPut old new draft posted
IsAnswered old new draft (Err refused) = HadNoRoom old new × (refused.1 ≡ draft) × (refused.0 ≡ OutOfMemory)

-- the line has left with the right that it had inside, by which the draft was put or not
abbrev pub IsPutInside : InsideSeat LineSeat → Option (EntrySeat LineSeat) → Draft → Result Posted (PostError × Draft) → Type 0
IsPutInside inside entry draft answer = (word : ℕ) × (right : LineSeat) × (entry ≡ Some (left_seat (with_right inside right) word)) × (right.queue ≡ inside.right.queue) × IsAnswered inside.right.at right.at draft answer

-- The line stays where it stands. The draft was put, or there was no memory for it, or the line was turned.
abbrev pub IsTried : StandSeat → StandSeat → Draft → Tried → Type 0
IsTried old new draft (Answered answer) = StaysAt old new × IsAnswered (put_of old) (put_of new) draft (answer_back answer draft)
IsTried old new draft (Turned found) = StaysAt old new × (put_of new ≡ put_of old) × HasSeen new old.entry.at.enters found

-- what is lent is there as it was, but where the draft was accepted
abbrev pub LeavesTried : {a : Type 0} → Tried → Option a → Option a → Type 0
LeavesTried (Answered answer) old new = LeavesLent answer old new
LeavesTried (Turned found) old new = new ≡ old

-- the line stands at the next queue, and keeps what shows the gate that it has left
abbrev pub gone_to : StandSeat → StandSeat → StandSeat
gone_to old next = record { name = next.name; entry = next.entry; rung = next.rung; left = Some old.entry ∷ take 3 old.left }

-- the line has gone on to a later queue of its end, where it had not pushed
pub record GoesToUnused (old new : StandSeat) (before : PutView) : Type 0 where
  pub goes : GoesTo old new
  pub named : IsNameOf before new.name
  pub unused : HasNotPushed before

-- the error where a line goes on no further
abbrev pub error_of : Refusal → PostError
error_of refusal.Moved = Moving
error_of refusal.Closed = Closed

-- A line that was turned goes on. Ok: at a later queue, where the draft is all that it has put. Err: the draft comes back, and the line stands where it was turned, or at a later queue where it has put nothing.
abbrev pub IsPostedOnward : StandSeat → StandSeat → Refusal → Draft → Result Posted (PostError × Draft) → Type 0
IsPostedOnward turned new found draft (Ok posted) = (before : PutView) × GoesToUnused turned new before × IsPut before (put_of new) draft posted
IsPostedOnward turned new found draft (Err refused) = (refused.1 ≡ draft) × (((new ≡ turned) × (refused.0 ≡ error_of found)) ⊎ ((before : PutView) × GoesToUnused turned new before × PutsNothing before (put_of new) refused.0 × IsSeen new 0 refused.0))

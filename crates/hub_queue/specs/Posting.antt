-- What a post comes to.
use Rattle.std.specs.Prelude.{◌≡◌, ◌⊎◌, ℕ, zero, suc, ◌+◌, ◌<◌, ◌≤◌, List, [], ◌∷◌, Option, Some, Result, Ok, Err}
use Rattle.hub_envelope.specs.declared.limits.TheConstants.{MAX_HOPS}
use Rattle.hub_depot.specs.declared.kept_map.Key.{Key}
use Rattle.hub_envelope.specs.declared.envelope.Draft.{Draft}
use Rattle.hub_gate.specs.declared.entry.Refusal.{Refusal}
use Rattle.hub_gate.specs.declared.entry.Refusal.TheVariants as refusal
use Rattle.hub_queue.specs.declared.store.PutView.{PutView}
use Rattle.hub_envelope.specs.declared.posted.Posted.{Posted}
use Rattle.hub_queue.specs.declared.error.PostError.{PostError}
use Rattle.hub_queue.specs.declared.error.PostError.TheVariants.{Closed, Moving, OutOfMemory}
use Rattle.hub_queue.specs.Putting.{IsPut, HadNoRoom}
use Rattle.hub_gate.specs.GateSeats.{EntrySeat}
use Rattle.hub_queue.specs.Seats.{LineSeat, IsNameOf}
use Rattle.hub_queue.specs.Standing.{StandSeat, HasNotPushed, right_in, right_of, put_of}

-- the line stands where it stood: at the same queue, with its entry at the same gate, and it has left no other
pub record StaysAt (old new : StandSeat) : Type 0 where
  pub name : new.name ≡ old.name
  pub gate : new.entry.gate ≡ old.entry.gate
  pub queue : (right_of new).queue ≡ (right_of old).queue
  pub left : new.left ≡ old.left

-- the name of the line so many queues later
abbrev pub name_after : Key → ℕ → Key
name_after name hops = record { end = name.end; epoch = name.epoch + hops; line = name.line }

-- the entry is that of the line at the gate where it stood, with the right that it had: it has put nothing more there
abbrev pub HasLeft : StandSeat → Option (EntrySeat LineSeat) → Type 0
HasLeft old left = (e : EntrySeat LineSeat) × (left ≡ Some e) × (e.gate ≡ old.entry.gate) × (right_in e.at.home ≡ right_of old)

-- the entry is that of the line at a later queue, of this name, where it has not pushed
abbrev pub HasPassed : Key → Option (EntrySeat LineSeat) → Type 0
HasPassed name left = (e : EntrySeat LineSeat) × (left ≡ Some e) × IsNameOf (right_in e.at.home).at name × HasNotPushed (right_in e.at.home).at

-- The gates that the line has left in so many hops of one epoch each, the last one first: behind them all is that where it stood.
abbrev pub LeavesBehind : StandSeat → ℕ → List (Option (EntrySeat LineSeat)) → Type 0
LeavesBehind old zero left = Unit {0}
LeavesBehind old (suc hops) [] = ⊥
LeavesBehind old (suc zero) (entry ∷ left) = HasLeft old entry
LeavesBehind old (suc (suc hops)) (entry ∷ left) = HasPassed (name_after old.name (suc hops)) entry × LeavesBehind old (suc hops) left

-- the line has gone on to a later queue of the same end, and has put nothing more in those that it left
pub record GoesTo (old new : StandSeat) : Type 0 where
  pub hops : ℕ
  pub some : 0 < hops
  pub few : hops ≤ MAX_HOPS
  pub name : new.name ≡ name_after old.name hops
  pub left : LeavesBehind old hops new.left

-- Before the draft was put or refused the line had put this in the queue where it stands now, and had entered its gate so often: what it had put and how often it had entered before the call, or nothing and never where it has gone on in this call.
abbrev pub StoodAs : StandSeat → StandSeat → PutView → ℕ → Type 0
StoodAs old new before entered =
    (StaysAt old new × (before ≡ put_of old) × (entered ≡ old.entry.at.enters))
    ⊎ (GoesTo old new × IsNameOf before new.name × HasNotPushed before × (entered ≡ 0))

-- The line was turned in this call, by a word in which it has seen this flag.
pub record HasSeen (s : StandSeat) (entered : ℕ) (flag : Refusal) : Type 0 where
  pub entered_again : entered < s.entry.at.enters
  pub found : s.entry.at.refusal ≡ Some flag

-- closed and moving are answered only where the flag was seen in this call
abbrev pub IsSeen : StandSeat → ℕ → PostError → Type 0
IsSeen s entered Closed = HasSeen s entered refusal.Closed
IsSeen s entered Moving = HasSeen s entered refusal.Moved
IsSeen s entered OutOfMemory = Unit {0}

-- The line has put nothing. It has not pushed, but where there was no memory: there the queue has refused one push more, or the line has put as many envelopes as it may.
abbrev pub PutsNothing : PutView → PutView → PostError → Type 0
PutsNothing before now Closed = now ≡ before
PutsNothing before now Moving = now ≡ before
PutsNothing before now OutOfMemory = HadNoRoom before now

-- Ok: what the line has put in the queue named by the answer is what it had put there, followed by the draft under that name. Err: it has put nothing more, and the draft comes back. Nowhere else has it put anything.
abbrev pub IsPosted : StandSeat → StandSeat → Draft → Result Posted (PostError × Draft) → Type 0
IsPosted old new draft (Ok posted) = (before : PutView) × (entered : ℕ) × StoodAs old new before entered × IsPut before (put_of new) draft posted
IsPosted old new draft (Err refused) = (before : PutView) × (entered : ℕ) × StoodAs old new before entered × PutsNothing before (put_of new) refused.0 × (refused.1 ≡ draft) × IsSeen new entered refused.0

-- What it comes to that a loop asks its ends in turn.
use Rattle.std.specs.Prelude.{List, [], ◌∷◌, ◌++◌, ◌≡◌, ◌≢◌, ◌⊎◌, ℕ, zero, suc, ◌+◌, ◌-◌, ◌<◌, ◌≤◌, Bool, true, false, ◌||◌, Option, Some, None}
use Rattle.slab.specs.Slab.{Slab, get}
use Rattle.hub_queue.specs.declared.taker.Took.{Took}
use Rattle.hub_queue.specs.declared.taker.Took.TheVariants.{Got, Empty, Busy, Again, Disabled, Closed}
use Rattle.hub_queue.specs.Counting.{Count}
use Rattle.hub_loop.specs.declared.held.Held.{Held}
use Rattle.hub_loop.specs.declared.serving.Served.{Served}
use Rattle.hub_loop.specs.declared.serving.Served.TheVariants.{Given, Nothing}
use Rattle.hub_bell.specs.declared.board.BoardStep.{BoardStep}
use Rattle.hub_envelope.specs.declared.ids.EndId.{EndId}
use Rattle.hub_envelope.specs.declared.envelope.Envelope.{Envelope}
use Rattle.hub_ready.specs.Finding.{WasClear, HasStepped, LeadsTo}
use Rattle.hub_ready.specs.Marking.{mark_of, ClearBetween}
use Rattle.hub_loop.specs.Asking.{IsHeldAsked}
use Rattle.hub_loop.specs.Holding.{end_held}
use Rattle.hub_bell.specs.Seats.{BoardSeat}
use Rattle.hub_loop.specs.declared.ends.HeldEnds.{HeldEnds}
use Rattle.hub_loop.specs.declared.serving.Which.{Which}
use Rattle.hub_loop.specs.declared.serving.Which.TheVariants.{Marked, Each}

-- under this key nothing is held, or what is held there was asked
abbrev pub IsSlotAsked : Option Held → Option Held → Count → Count → Option Took → Type 0
IsSlotAsked None new before after answer = (new ≡ None) × (after ≡ before) × (answer ≡ None)
IsSlotAsked (Some held) new before after answer = (left : Held) × (new ≡ Some left) × IsHeldAsked held left before after answer

-- What is held under this key was asked, and under every other one all is as it was.
pub record IsTakenAtKey (old new : Slab Held) (key : ℕ) (before after : Count) (answer : Option Took) : Type 0 where
  pub at : IsSlotAsked (get old key) (get new key) before after answer
  pub others : (other : ℕ) → other ≢ key → get new other ≡ get old other
  pub capacity : new.capacity ≡ old.capacity

-- what the answer of the end under this key comes to
abbrev pub served_by : ℕ → Option Took → Served
served_by key (Some (Got v)) = Given key v
served_by key (Some Busy) = Nothing true
served_by key (Some Empty) = Nothing false
served_by key (Some Again) = Nothing false
served_by key (Some Disabled) = Nothing false
served_by key (Some Closed) = Nothing false
served_by key None = Nothing false

-- What is held under this key was asked, and this is what it came to.
abbrev pub IsAskedAt : Slab Held → Slab Held → ℕ → Count → Count → Served → Type 0
IsAskedAt old new key before after served = (answer : Option Took) × IsTakenAtKey old new key before after answer × (served ≡ served_by key answer)

-- These keys were asked, the last of them first in the list, and no end gave an envelope; whether one was busy.
abbrev pub AskedAll : List ℕ → Slab Held → Slab Held → Count → Count → Bool → Type 0
AskedAll [] old new before after busy = (new ≡ old) × (after ≡ before) × (busy ≡ false)
AskedAll (key ∷ earlier) old new before after busy =
    (middle : Slab Held) × (count : Count) × (was : Bool) × (here : Bool)
    × AskedAll earlier old middle before count was
    × IsAskedAt middle new key count after (Nothing here)
    × (busy ≡ (here || was))

-- the key is one of these
abbrev pub IsIn : ℕ → List ℕ → Type 0
IsIn key [] = ⊥
IsIn key (k ∷ keys) = (key ≡ k) ⊎ IsIn key keys

-- Among these keys, of which the last asked is the first, so many from this one on were asked in order.
abbrev pub HasOrder : ℕ → ℕ → List ℕ → Type 0
HasOrder low zero keys = Unit {0}
HasOrder low (suc n) keys = (later : List ℕ) × (earlier : List ℕ) × (keys ≡ later ++ (low + n) ∷ earlier) × HasOrder low n earlier

-- Each end was asked, by rising key from this one on and then from the first; others were asked before and between.
abbrev pub InOrder : ℕ → ℕ → List ℕ → Type 0
InOrder next capacity keys =
    (behind : List ℕ) × (ahead : List ℕ) × (keys ≡ behind ++ ahead) × HasOrder next (capacity - next) ahead × HasOrder 0 next behind

-- These keys were asked, the last of them first in the list, and then this one, whose end gave the envelope.
pub record HasGiven (keys : List ℕ) (old new : Slab Held) (before after : Count) (key : ℕ) (v : Envelope) : Type 0 where
  pub middle : Slab Held
  pub count : Count
  pub busy : Bool
  pub earlier : AskedAll keys old middle before count busy
  pub given : IsAskedAt middle new key count after (Given key v)

-- the one key stands before the other in the order in which ends are served, where that begins with `next`
abbrev pub IsBefore : ℕ → ℕ → ℕ → Type 0
IsBefore next other key = ((next ≤ other) × (other < key)) ⊎ ((key < next) × ((next ≤ other) ⊎ (other < key)))

-- the end was not marked, and its ready bit was found clear; a line is no end
abbrev pub IsEndPassedOver : Option EndId → ℕ → List BoardStep → Type 0
IsEndPassedOver None mark looks = Unit {0}
IsEndPassedOver (Some end) mark looks = (mark ≡ 0) × WasClear end looks

-- what a loop finds at its listener says nothing of this key: no end is held there, or one that was not marked and whose ready bit was found clear
abbrev pub IsPassedOver : Option Held → ℕ → List BoardStep → Type 0
IsPassedOver None mark looks = Unit {0}
IsPassedOver (Some held) mark looks = IsEndPassedOver (end_held held) mark looks

-- The ends were asked in order up to the first that gave an envelope: each one before it was asked in this call and gave none, or was passed over. Where none gave one each was asked.
abbrev pub AreServed : ℕ → Slab Held → Slab Held → List ℕ → List BoardStep → Count → Count → Served → Type 0
AreServed next old new marks looks before after (Given key v) =
    (keys : List ℕ) × HasGiven keys old new before after key v
    × ((other : ℕ) → IsBefore next other key → IsIn other keys ⊎ IsPassedOver (get old other) (mark_of marks other) looks)
AreServed next old new marks looks before after (Nothing busy) =
    (keys : List ℕ) × AskedAll keys old new before after busy × InOrder next old.capacity keys

-- the key with which the next asking begins: the one behind the end that gave an envelope
abbrev pub next_after : ℕ → Served → ℕ
next_after next (Given key v) = key + 1
next_after next (Nothing busy) = next

-- the number of the end that is held here leads to this key
abbrev pub IsListedAt : List ℕ → ℕ → Option Held → Type 0
IsListedAt listed key slot = (held : Held) (end : EndId) → slot ≡ Some held → end_held held ≡ Some end → LeadsTo listed end key

-- an end that gave an envelope is marked
abbrev pub IsServedMarked : List ℕ → Served → Type 0
IsServedMarked marks (Given key v) = mark_of marks key ≡ 1
IsServedMarked marks (Nothing busy) = Unit {0}

-- a walk passes over each key from the one up to the other
abbrev pub NoneBetween : Which → List ℕ → ℕ → ℕ → Type 0
NoneBetween Marked marks low high = ClearBetween marks low high
NoneBetween Each marks low high = high ≤ low

-- no other mark was taken away than those of these keys
abbrev pub StayMarked : List ℕ → List ℕ → List ℕ → Type 0
StayMarked keys old new = (key : ℕ) → mark_of old key ≡ 1 → IsIn key keys ⊎ (mark_of new key ≡ 1)

-- each key between was asked, or wasn't marked
abbrev pub AskedOrUnmarked : ℕ → ℕ → List ℕ → List ℕ → Type 0
AskedOrUnmarked low high keys marks = (key : ℕ) → low ≤ key → key < high → IsIn key keys ⊎ (mark_of marks key ≡ 0)

-- The keys of a range were asked: those that were marked, or each in order.
abbrev pub HasPassedKeys : Which → ℕ → ℕ → List ℕ → List ℕ → Type 0
HasPassedKeys Marked low high keys marks = AskedOrUnmarked low high keys marks
HasPassedKeys Each low high keys marks = HasOrder low (high - low) keys

-- These keys were asked, the last of them first in the list, and this is what it came to; `was` tells whether an end was busy before.
abbrev pub CameTo : List ℕ → Slab Held → Slab Held → Count → Count → Bool → Served → Type 0
CameTo keys old new before after was (Given key v) = HasGiven keys old new before after key v
CameTo keys old new before after was (Nothing busy) = (here : Bool) × AskedAll keys old new before after here × (busy ≡ (here || was))

-- The keys of a range were walked, up to the one whose end gave an envelope.
abbrev pub HasWalked : Which → ℕ → ℕ → HeldEnds → HeldEnds → Count → Count → Bool → Served → Type 0
HasWalked which low high old new before after was (Given key v) =
    (keys : List ℕ) × CameTo keys old.held new.held before after was (Given key v) × HasPassedKeys which low key keys old.ready.marks × (low ≤ key) × (key < high)
HasWalked which low high old new before after was (Nothing busy) =
    (keys : List ℕ) × CameTo keys old.held new.held before after was (Nothing busy) × HasPassedKeys which low high keys old.ready.marks × StayMarked keys old.ready.marks new.ready.marks

-- this key stands before the one whose end gave an envelope; where none gave one each does
abbrev pub IsReachedBefore : ℕ → ℕ → Served → Type 0
IsReachedBefore next other (Given key v) = IsBefore next other key
IsReachedBefore next other (Nothing busy) = Unit {0}

-- each end that stands before was asked or passed over
abbrev pub HasPassedEnds : ℕ → Slab Held → List ℕ → List BoardStep → List ℕ → Served → Type 0
HasPassedEnds next slots marks looks keys served =
    (other : ℕ) → IsReachedBefore next other served → IsIn other keys ⊎ IsPassedOver (get slots other) (mark_of marks other) looks

-- The marked ends were asked in the order of serving.
abbrev pub AreMarkedServed : HeldEnds → HeldEnds → BoardSeat → BoardSeat → Count → Count → Bool → Served → Type 0
AreMarkedServed old new heard hears before after was served =
    (looks : List BoardStep) × HasStepped heard hears looks
    × (keys : List ℕ) × CameTo keys old.held new.held before after was served
    × HasPassedEnds old.next old.held old.ready.marks looks keys served

-- among these keys are those of the range, in order; where an end gave an envelope it is not said
abbrev pub HasAskedEach : ℕ → ℕ → List ℕ → Served → Type 0
HasAskedEach low high keys (Given key v) = Unit {0}
HasAskedEach low high keys (Nothing busy) = HasOrder low (high - low) keys

-- The ends of a range were asked in order, and marked ones between.
abbrev pub AreEachServed : ℕ → ℕ → HeldEnds → HeldEnds → BoardSeat → BoardSeat → Count → Count → Bool → Served → Type 0
AreEachServed low high old new heard hears before after was served =
    (looks : List BoardStep) × HasStepped heard hears looks
    × (keys : List ℕ) × CameTo keys old.held new.held before after was served
    × HasAskedEach low high keys served

-- The ends were served, as the loop promises it.
abbrev pub IsServed : HeldEnds → HeldEnds → BoardSeat → BoardSeat → Count → Count → Served → Type 0
IsServed old new heard hears before after served =
    (looks : List BoardStep) × HasStepped heard hears looks
    × AreServed old.next old.held new.held old.ready.marks looks before after served

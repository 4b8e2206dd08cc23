-- What a post does to the yard, from which its line takes the stands at later queues.
use Rattle.std.specs.Prelude.{◌≡◌, ◌⊎◌, ℕ, zero, suc, ◌-◌, ◌<◌, Option, Some, None, Result, Ok, Err}
use Rattle.std.specs.FinMap as map
use Rattle.hub_envelope.specs.declared.limits.TheConstants.{MAX_HOPS}
use Rattle.hub_depot.specs.declared.kept_map.Key.{Key}
use Rattle.hub_depot.specs.Key.{key_cmp}
use Rattle.hub_envelope.specs.declared.envelope.Draft.{Draft}
use Rattle.hub_envelope.specs.declared.posted.Posted.{Posted}
use Rattle.hub_queue.specs.declared.error.PostError.{PostError}
use Rattle.hub_queue.specs.declared.error.PostError.TheVariants.{Closed, Moving, OutOfMemory}
use Rattle.hub_queue.specs.Posting.{name_after}
use Rattle.hub_queue.specs.Standing.{StandSeat, right_of}

-- the stands that lie in a yard, by their names
abbrev pub Yard : Type 0
Yard = map.FinMap key_cmp StandSeat

-- how many queues later the line stands that has gone on from the one name to the other
abbrev pub hops_between : Key → Key → ℕ
hops_between from to = to.epoch - from.epoch

-- the yard without the stands of the line at the next queues, which are so many
abbrev pub without_next : Key → ℕ → Yard → Yard
without_next name zero yard = yard
without_next name (suc hops) yard = map.remove (without_next name hops yard) (name_after name (suc hops))

-- the line stands at the queue, and with its entry at the gate, of the stand that the yard had under its name
abbrev pub IsStandOf : Yard → StandSeat → Type 0
IsStandOf yard s = (o : StandSeat) × (map.get yard s.name ≡ Some o) × (s.entry.gate ≡ o.entry.gate) × ((right_of s).queue ≡ (right_of o).queue)

-- the line went on as often as it may, or the yard has no stand for it at the next queue
abbrev pub GoesNoFurther : Yard → ℕ → StandSeat → PostError → Type 0
GoesNoFurther yard hops new Moving = (hops ≡ MAX_HOPS) ⊎ (map.get yard (name_after new.name 1) ≡ None)
GoesNoFurther yard hops new Closed = Unit {0}
GoesNoFurther yard hops new OutOfMemory = Unit {0}

-- moving is answered only where the line goes no further
abbrev pub IsHeldBack : Yard → ℕ → StandSeat → Result Posted (PostError × Draft) → Type 0
IsHeldBack yard hops new (Ok posted) = Unit {0}
IsHeldBack yard hops new (Err refused) = GoesNoFurther yard hops new refused.0

-- The yard lost the stands of the line at the queues that it went on to, and no other. Where it went on, the line stands where the last of them did.
pub record HasHopped (was now : Yard) (from : Key) (new : StandSeat) (answer : Result Posted (PostError × Draft)) : Type 0 where
  pub yard : now ≡ without_next from (hops_between from new.name) was
  pub stand : 0 < hops_between from new.name → IsStandOf was new
  pub moving : IsHeldBack now (hops_between from new.name) new answer

-- It is so of a yard that shows what it keeps; of another nothing is known.
abbrev pub IsHoppedOver : Option Yard → Option Yard → Key → StandSeat → Result Posted (PostError × Draft) → Type 0
IsHoppedOver None now from new answer = now ≡ None
IsHoppedOver (Some was) None from new answer = ⊥
IsHoppedOver (Some was) (Some now) from new answer = HasHopped was now from new answer

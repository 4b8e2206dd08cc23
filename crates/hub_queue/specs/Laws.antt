-- What holds of the queues of an end, which its taker goes through one after another.
use Rattle.std.specs.Prelude.{◌≡◌, ℕ, List, [], ◌∷◌, ◌++◌}
use Rattle.std.specs.List.{AllByRecursion, flat_map}
use mathlib.Core.Option.{some}
use lib.ListN.{get_elem?}
use Rattle.hub_envelope.specs.declared.envelope.Envelope.{Envelope}
use Rattle.hub_envelope.specs.declared.ids.EndId.{EndId}
use Rattle.hub_core.specs.Sender.{by, Prefix}
use Rattle.hub_queue.specs.declared.store.PutView.{PutView}
use Rattle.hub_queue.specs.declared.store.TakeView.{TakeView}
use Rattle.hub_queue.specs.declared.store.PassView.{PassView}
use Rattle.hub_queue.specs.declared.store.PassView.TheVariants.{Takes, Puts}
use Rattle.hub_queue.specs.declared.taker.Took.{Took}
use Rattle.hub_queue.specs.Adopting.{IsMoved}
use Rattle.hub_queue.specs.Counting.{Count}
use Rattle.hub_queue.specs.Mailboxes.{IsOpenMailbox}
use Rattle.hub_queue.specs.TakerQueues.{TakerQueueSeat}
use Rattle.hub_queue.specs.SharedQueue.{ShowsQueue}
use Rattle.hub_queue.specs.Standing.{StandSeat}
use Rattle.hub_queue.specs.Taking.{TakerSeat, IsTaken, first_queue, started}

-- what a queue holds, and what its passes know, as this rule has them
abbrev pub Rule : Type 1
Rule = List Envelope → List PassView → Type 0

-- where the rule holds, they show a state of the queue machine
abbrev pub RuleShowsQueue : Rule → Type 0
RuleShowsQueue holds = (items : List Envelope) (views : List PassView) → holds items views → ShowsQueue items views

-- where the rule holds, what the taker's pass has taken of a line is a prefix of what the line's pass has put
abbrev pub TakenIsPrefix : Rule → Type 0
TakenIsPrefix holds = (items : List Envelope) (views : List PassView) → holds items views → (taker pass : ℕ) (t : TakeView) (v : PutView) → get_elem? views taker ≡ some (Takes t) → get_elem? views pass ≡ some (Puts v) → Prefix (by v.line t.got) v.put

-- nothing was taken of these queues
abbrev pub NothingTaken : List TakerQueueSeat → Type 0
NothingTaken ps = AllByRecursion (λ p. p.at.got ≡ []) ps

-- the queues of an end but the one where its taker stands
abbrev pub ahead_of : List TakerQueueSeat → TakerQueueSeat → List TakerQueueSeat
ahead_of [] newest = []
ahead_of (p ∷ ps) newest = ps ++ newest ∷ []

-- nothing was taken of any queue but the one where the taker stands
abbrev pub NothingAhead : TakerSeat → Type 0
NothingAhead t = NothingTaken (ahead_of t.retired t.newest)

-- It is so as a mailbox is opened, and stays so after each start, take and adoption.
pub record TakesInTurn : Type 0 where
  pub opened : (end : EndId) (lines : ℕ) (t : TakerSeat) (posters : List StandSeat) → IsOpenMailbox end lines t posters → NothingAhead t
  pub start : (t : TakerSeat) → NothingAhead t → NothingAhead (started t)
  pub take : (old new : TakerSeat) (before after : Count) (took : Took) → IsTaken old new before after took → NothingAhead old → NothingAhead new
  pub adopt : (old new : TakerSeat) → IsMoved old new → NothingAhead old → NothingAhead new

-- everything that the line has put in these queues, which are this, was taken of them
abbrev pub AllTaken : ℕ → List TakerQueueSeat → List (List Envelope) → Type 0
AllTaken line [] puts = puts ≡ []
AllTaken line (p ∷ ps) [] = ⊥
AllTaken line (p ∷ ps) (put ∷ puts) = (by line p.at.got ≡ put) × AllTaken line ps puts

-- what was taken of these queues
abbrev pub got_from : List TakerQueueSeat → List Envelope
got_from ps = flat_map (λ p. p.at.got) ps

-- what was put in these queues
abbrev pub all_put : List (List Envelope) → List Envelope
all_put puts = flat_map (λ put. put) puts

-- The queues that were left, and those of the taker. What was taken of a line is a prefix of what the line has put, queue after queue.
abbrev pub ChainIsPrefix : Type 0
ChainIsPrefix = (line : ℕ) (left : List TakerQueueSeat) (t : TakerSeat) (before ahead : List (List Envelope)) (now : List Envelope)
    → AllTaken line left before → Prefix (by line (first_queue t).at.got) now → NothingAhead t
    → Prefix (by line (got_from (left ++ t.retired ++ t.newest ∷ []))) (all_put (before ++ now ∷ ahead))

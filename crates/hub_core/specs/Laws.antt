-- What every legal history keeps, in the words of the subject (WHATWG HTML, "Message ports": the tasks of a
-- port message queue are run in order, each once).
use Rattle.std.specs.Prelude.{◌&&◌, ◌++◌, ◌<◌, ◌==◌, ◌↔◌, ◌∷◌, ◌≡◌, ◌≤◌, ◌⊎◌}
use Rattle.hub_core.specs.Words.{Action, AgentId, AllByRecursion, Bool, EndId, Envelope, List, None, Outcome, Sender, Some, Step, Turned, [], false, filter, length, list_any, not, true, ℕ, is_some}
use Rattle.hub_core.specs.Notions.{History, Pair, accepted, discarded, taken, closed, enabled, place, Prefix, by, in_queue, numbers, up_to, newest, phase, stand, taker_stand, cast_after, roster, source_for, Facts, facts, ends}
use Rattle.hub_core.specs.Legal.{Fits, Legal, Same, changes_nothing}
use Rattle.hub_core.specs.Posting.{is_out, may_enter, phase_of_line, poster}
use Rattle.hub_core.specs.Sound.{flights, naming, total}
use Rattle.hub_core.specs.declared.step.Outcome.TheVariants as outcome
use Rattle.hub_core.specs.declared.step.Action.TheVariants as action

-- a step with memory refused in it or not, and what it was answered
abbrev pub answered : Action → Bool → Outcome → Pair
answered a refused o = (record { action = a; memory_refused = refused }, o)

abbrev pub is_line : Sender → Sender → Bool
is_line s t = s.end.0 == t.end.0 && s.line.0 == t.line.0

-- whether an answered step leaves the line, and whether it is a Push or a Notice on it that was Accepted
abbrev pub leaves : Sender → Outcome → Action → Bool
leaves s outcome.Left (action.Leave t) = is_line s t
leaves s _ _ = false

abbrev pub posts : Sender → Outcome → Action → Bool
posts s (outcome.Accepted n) (action.Push t ports body) = is_line s t
posts s (outcome.Accepted n) (action.Notice t) = is_line s t
posts s _ _ = false

-- the answers of an Enter that turn a poster back: the end is closed, or the line's queue is retired
abbrev pub IsTurned : Outcome → Type 0
IsTurned o = (o ≡ outcome.Closed) ⊎ (o ≡ outcome.Moved)

-- an open, enabled end, where everything that was accepted was taken
pub record IsDrainedAt (h : History) (e : ℕ) : Type 0 where
  pub is_open : closed h e ≡ false
  pub is_enabled : enabled h e ≡ true
  pub all : (line : ℕ) → by line (taken h e) ≡ by line (accepted h e)

-- an open, enabled end with its taker at a retired queue, where the poster of some line is inside or being turned back
pub record IsBusyAt (h : History) (e : ℕ) : Type 0 where
  pub is_open : closed h e ≡ false
  pub is_enabled : enabled h e ≡ true
  pub retired : taker_stand h e < newest h e
  pub line : ℕ
  pub away : is_out (phase h e line) ≡ false
  pub there : stand h e line ≡ taker_stand h e

-- the facts, but that a cast that goes to the end next is done with it
abbrev pub done_with : ℕ → Facts → Facts
done_with x f = record f { roster = record f.roster { cast = cast_after x f.roster.cast } }

-- For each end and line, what was taken is a prefix of what was accepted, in order; and in each queue the
-- envelopes are numbered 0, 1, 2 and so on, those accepted and those taken, so that each comes once. For each pair of
-- the history: a Take at a closed end takes nothing; from an Enter that was turned back to its Leave nothing of that
-- line is accepted, and the two leave the same where no cast goes to that end next; where one does, they leave the same
-- facts, but that the cast is done with that destination. A Take finds nothing only where nothing is left, or a poster is
-- inside or being turned back at the taker's queue.
pub record Headline (h : History) : Type 0 where
  pub prefix : (e line : ℕ) → Prefix (by line (taken h e)) (by line (accepted h e))
  pub accepted_once : (e line epoch : ℕ) → numbers line epoch (accepted h e) ≡ up_to (length (numbers line epoch (accepted h e)))
  pub taken_once : (e line epoch : ℕ) → numbers line epoch (taken h e) ≡ up_to (length (numbers line epoch (taken h e)))
  pub closed : (before after : History) (e : EndId) (refused : Bool) (o : Outcome) → h ≡ before ++ answered (action.Take e) refused o ∷ after → closed before e.0 ≡ true → o ≡ outcome.Closed
  pub turned : (before middle after : History) (s : Sender) (refused : Bool) (o : Outcome) → IsTurned o → h ≡ before ++ answered (action.Enter s) refused o ∷ (middle ++ after) → AllByRecursion (λ p. leaves s p.1 p.0.action ≡ false) middle → AllByRecursion (λ p. posts s p.1 p.0.action ≡ false) middle
  pub same : (before after : History) (s : Sender) (refused again : Bool) (o : Outcome) → IsTurned o → source_for (roster before).cast s.end.0 ≡ None → h ≡ before ++ answered (action.Enter s) refused o ∷ after → Same (before ++ answered (action.Enter s) refused o ∷ answered (action.Leave s) again outcome.Left ∷ []) before
  pub same_but_destination : (before after : History) (s : Sender) (refused again : Bool) (o : Outcome) → IsTurned o → is_some (source_for (roster before).cast s.end.0) ≡ true → h ≡ before ++ answered (action.Enter s) refused o ∷ after → facts (before ++ answered (action.Enter s) refused o ∷ answered (action.Leave s) again outcome.Left ∷ []) ≡ done_with s.end.0 (facts before)
  pub empty : (before after : History) (e : EndId) (refused : Bool) → h ≡ before ++ answered (action.Take e) refused outcome.Empty ∷ after → IsDrainedAt before e.0
  pub busy : (before after : History) (e : EndId) (refused : Bool) → h ≡ before ++ answered (action.Take e) refused outcome.Busy ∷ after → IsBusyAt before e.0

-- ==== What becomes of each accepted envelope (this project's own).

-- whether two envelopes of one end have one name: one line, queue and number
abbrev pub same_name : Envelope → Envelope → Bool
same_name v w = v.line.0 == w.line.0 && (v.epoch == w.epoch && v.number == w.number)

-- what waits at the end: the envelopes that were accepted and whose name is none of those taken or discarded
abbrev pub waiting : History → ℕ → List Envelope
waiting h e = filter (λ v. not (list_any (same_name v) (taken h e ++ discarded h e))) (accepted h e)

-- Each accepted envelope is exactly one of taken, discarded and waiting: of each line what was accepted is what was taken,
-- then what was discarded, then what waits, and no name comes twice. After a Sweep was answered Discarded nothing waits at
-- the end, and nothing is accepted there any more. A port is in flight exactly where one waiting envelope names it, and at
-- most one does, at all ends together: a number that no end has yet accepts nothing.
pub record Fates (h : History) : Type 0 where
  pub parts : (e line : ℕ) → by line (accepted h e) ≡ by line (taken h e) ++ (by line (discarded h e) ++ by line (waiting h e))
  pub once : (e : ℕ) (before middle after : List Envelope) (v w : Envelope) → accepted h e ≡ before ++ v ∷ (middle ++ w ∷ after) → same_name v w ≡ false
  pub swept : (before after : History) (e : EndId) (refused : Bool) (vs : List Envelope) → h ≡ before ++ answered (action.Sweep e) refused (outcome.Discarded vs) ∷ after → waiting h e.0 ≡ []
  pub nothing_more : (before after : History) (e : EndId) (refused : Bool) (vs : List Envelope) → h ≡ before ++ answered (action.Sweep e) refused (outcome.Discarded vs) ∷ after → accepted h e.0 ≡ accepted before e.0
  pub in_flight : (x : ℕ) → total (λ e. naming x (waiting h e)) (ends h) ≡ flights (place h x)
  pub at_ends : (e : ℕ) → ends h ≤ e → accepted h e ≡ []

-- ==== Laws of what fits and of legal histories, in the words of the subject.

-- A pair that changes nothing leaves the same.
abbrev pub NothingLeavesTheSame : Type 0
NothingLeavesTheSame = (h : History) (p : Pair) → changes_nothing p.1 p.0.action ≡ true → Same (h ++ p ∷ []) h

-- For legal histories the same is said of joined lists: whatever comes, the one list joined with it is legal exactly
-- where the other one is.
abbrev pub SameIsJoined : Type 0
SameIsJoined = (h k : History) → Legal h → Legal k → Same h k ↔ ((g : History) → Legal (h ++ g) ↔ Legal (k ++ g))

-- the agent that may post on the line after the history
abbrev pub Posts : History → Sender → AgentId → Type 0
Posts h s a = poster (facts h) s ≡ Some a

-- whether the line's poster is inside or being turned back
abbrev pub IsAway : History → Sender → Type 0
IsAway h s = is_out (phase_of_line (facts h) s) ≡ false

-- A line whose poster is away is one that may be entered; and the agent that may post on it, where there is one,
-- keeps it with every pair that fits, until the poster leaves.
pub record KeepsTheLine : Type 0 where
  pub held : (h : History) (s : Sender) → Legal h → IsAway h s → may_enter (facts h) s ≡ true
  pub kept : (h : History) (p : Pair) (s : Sender) (a : AgentId) → Legal h → Fits h p → IsAway h s → IsAway (h ++ p ∷ []) s → Posts h s a → Posts (h ++ p ∷ []) s a

-- A Push or a Notice of a poster that is being turned back is answered NotNow.
pub record TurnedPutsNothing : Type 0 where
  pub push : (h : History) (s : Sender) (ports : List EndId) (body : List ℕ) (refused : Bool) (o : Outcome) → phase_of_line (facts h) s ≡ Turned → Fits h (record { action = action.Push s ports body; memory_refused = refused }, o) → o ≡ outcome.NotNow
  pub notice : (h : History) (s : Sender) (refused : Bool) (o : Outcome) → phase_of_line (facts h) s ≡ Turned → Fits h (record { action = action.Notice s; memory_refused = refused }, o) → o ≡ outcome.NotNow

-- After a notice nothing more of its line is accepted.
abbrev pub NoticeIsLast : Type 0
NoticeIsLast = (h : History) (e line : ℕ) (before after : List Envelope) (v : Envelope) → Legal h → by line (accepted h e) ≡ before ++ v ∷ after → v.notice ≡ true → after ≡ []

-- In each queue of each end what was taken, and then discarded, is a beginning of what was accepted there, across all
-- lines.
pub record InOrder (h : History) : Type 0 where
  pub each : (e k : ℕ) → Prefix (in_queue k (taken h e ++ discarded h e)) (in_queue k (accepted h e))

-- Where two legal histories in order go on with the same step after the same pairs, they go on with the same answer.
abbrev pub OneAnswer : Type 0
OneAnswer = (h first second : History) (s : Step) (o p : Outcome) → Legal (h ++ (s, o) ∷ first) → Legal (h ++ (s, p) ∷ second)
    → InOrder (h ++ (s, o) ∷ first) → InOrder (h ++ (s, p) ∷ second) → o ≡ p

-- A mailbox beside a history: what it means that it shows one at an end, what each pair is to it, and the one that it is.
use Rattle.std.specs.Prelude.{◌++◌, ◌+◌, ◌≡◌, if◌then◌else◌, ◌-◌, ◌<◌, ◌==◌, ◌∷◌, ◌≤◌}
use Rattle.hub_core.specs.Words.{End, Envelope, List, Some, [], length, slice_get, slice_index_or, ℕ, Action, Bool, EndId, Inside, IsTrue, None, Option, Outcome, Phase, false, map, suc, true, zero, Kind, replicate}
use Rattle.hub_core.specs.declared.machine.Core.{Core}
use Rattle.hub_core.specs.Notions.{History, Pair, accepted, taken, discarded, named_envelope, named_notice, kind, lines_of, ends, kind_after, closed, enabled, phase, newest, stand, taker_stand, clear, by, in_queue, Facts, facts}
use Rattle.hub_core.specs.GateMachine.{Gate, IsAt, enter, leave, turn_back, enable, lets_in, says_moved, says_closed, lets_out, says_done, busy, look, says_inside, gives_rights, close}
use Rattle.hub_core.specs.QueueMachine.{Queue}
use Rattle.hub_core.specs.Mailbox.{Mailbox, GateAt, QueueAt, StandsAt, IsNewest, put_by, got_from, IsMailbox, new_mailbox, MailboxEvent, at_gate, push, pop, MailboxStep, hop, advance, add, after_event, after_events}
use Rattle.hub_core.specs.declared.step.Action.TheVariants as action
use Rattle.hub_core.specs.declared.step.Outcome.TheVariants as outcome
use Rattle.hub_core.specs.Legal.{Fits, Legal}
use Rattle.hub_core.specs.Taking.{looked, unsettled}

-- ==== What it means that a mailbox shows a history at an end, and that the ends of a core are such mailboxes.

-- The mailbox shows the history at the end: what each line put is what was accepted of it, what was taken out is
-- what was taken, then what was discarded, and then what was collected, as by a sweep that isn't done; the newest gate
-- has the flags of the end, and the rights of a gate were collected exactly where its queue is clear; each line stands
-- where it does in the history, in its phase; so does the taker.
pub record ShowsMailbox {R : Type 0} (h : History) (e : ℕ) (collected : List Envelope) (m : Mailbox R) : Type 0 where
  pub is_mailbox : IsMailbox e (lines_of (kind h e)) m
  pub gates : length m.gates ≡ newest h e + 1
  pub put : (line : ℕ) → put_by m line ≡ by line (accepted h e)
  pub got : got_from m ≡ (taken h e ++ discarded h e) ++ collected
  pub flags : (k : ℕ) (g : Gate R) → IsNewest m k → GateAt m k g → (g.enabled ≡ enabled h e) × (g.closed ≡ closed h e)
  pub given : (k : ℕ) (g : Gate R) → GateAt m k g → g.collected ≡ clear h e k
  pub stands : (line k : ℕ) → StandsAt m line k → stand h e line ≡ k
  pub phases : (line k : ℕ) (g : Gate R) → StandsAt m line k → GateAt m k g → IsAt g line (phase h e line)
  pub taker : m.taker ≡ taker_stand h e

-- the mailbox holds what the core keeps of the queues from the taker's on
abbrev pub HoldsKept : {R : Type 0} → End → Mailbox R → Type 0
HoldsKept x m = (i : ℕ) (q : Queue) → QueueAt m (x.taker + i) q → q.held ≡ slice_index_or x.queues i []

-- each end of the core is kept as a mailbox that shows the history there
abbrev pub MailboxesShow : Core → History → Type 0
MailboxesShow core h = (e : ℕ) (x : End) → slice_get core.ends e ≡ Some x → (m : Mailbox (Unit {0})) × HoldsKept x m × ShowsMailbox h e [] m

-- ==== What each pair of a history is to the mailbox of one end: events there, or nothing.

-- A history says nothing of rights. So there is one right, which each line has at every epoch.
abbrev pub OneRight : Type 0
OneRight = Unit {0}

abbrev pub has_right : ℕ → ℕ → OneRight → Bool
has_right epoch line right = true

-- whether the gate that is found is enabled
abbrev pub enabled_of : Option (Gate OneRight) → Bool
enabled_of (Some g) = g.enabled
enabled_of None = false

-- A Leave at epoch k, by the phase of the line: a line that is inside leaves, and one that was turned goes back.
abbrev pub leaving : Mailbox OneRight → ℕ → ℕ → Phase → MailboxEvent OneRight
leaving m k line Inside = at_gate k (leave line tt) (lets_out (enabled_of (slice_get m.gates k)))
leaving m k line _ = at_gate k (turn_back line) says_done

-- how many are inside or being turned back at the gate that is found
abbrev pub busy_at : Option (Gate OneRight) → ℕ
busy_at (Some g) = busy g
busy_at None = 0

-- the right of each line
abbrev pub rights_of : Mailbox OneRight → List OneRight
rights_of m = map (λ _. tt) m.stands

-- a look at the gate of epoch k that finds somebody
abbrev pub finds_busy : Mailbox OneRight → ℕ → MailboxEvent OneRight
finds_busy m k = at_gate k look (says_inside (busy_at (slice_get m.gates k)))

-- the look at the queue that is looked at, where there is one
abbrev pub finds_busy_at : Mailbox OneRight → Option ℕ → List (MailboxEvent OneRight)
finds_busy_at m None = []
finds_busy_at m (Some k) = finds_busy m k ∷ []

-- the events, where the step is at this end
abbrev pub at_end : ℕ → EndId → List (MailboxEvent OneRight) → List (MailboxEvent OneRight)
at_end e x events = if e == x.0 then events else []

-- pops at n queues, from the epoch k on, each until it finds none
abbrev pub sweeping : List Envelope → ℕ → ℕ → List (MailboxEvent OneRight)
sweeping vs k zero = []
sweeping vs k (suc n) = map (λ v. pop k (Some v)) (in_queue k vs) ++ (pop k None ∷ sweeping vs (k + 1) n)

-- The events of the mailbox of the end that an answered step is. An event of a line is at the gate or the queue where
-- the line stands, a Start at the newest gate, and a Take at the taker's queue. A Take that finds a retired queue
-- empty looks for somebody there, or goes on. An Adopt retires the newest gate and adds a queue, a Close closes the newest
-- gate, and a Sweep pops at each queue from the taker's on, or looks at the first that isn't settled. Every other answered
-- step is none.
abbrev pub events_of : Facts → ℕ → Mailbox OneRight → Outcome → Action → List (MailboxEvent OneRight)
events_of f e m outcome.In (action.Enter s) = at_end e s.end (at_gate ((f.line e s.line.0).stand) (enter s.line.0) (lets_in tt) ∷ [])
events_of f e m outcome.Moved (action.Enter s) = at_end e s.end (at_gate ((f.line e s.line.0).stand) (enter s.line.0) says_moved ∷ [])
events_of f e m outcome.Closed (action.Enter s) = at_end e s.end (at_gate ((f.line e s.line.0).stand) (enter s.line.0) says_closed ∷ [])
events_of f e m outcome.Left (action.Leave s) = at_end e s.end (leaving m ((f.line e s.line.0).stand) s.line.0 ((f.line e s.line.0).phase) ∷ [])
events_of f e m (outcome.Accepted a) (action.Push s ports body) = at_end e s.end (push (named_envelope s a body ports) ∷ [])
events_of f e m (outcome.Accepted a) (action.Notice s) = at_end e s.end (push (named_notice s a) ∷ [])
events_of f e m (outcome.Hopped k) (action.Hop s) = at_end e s.end (hop s.line.0 ∷ [])
events_of f e m outcome.Started (action.Start x) = at_end e x (at_gate ((f.end e).newest) enable says_done ∷ [])
events_of f e m (outcome.Got v) (action.Take x) = at_end e x (pop ((f.end e).taker_stand) (Some v) ∷ [])
events_of f e m outcome.Empty (action.Take x) = at_end e x (pop ((f.end e).taker_stand) None ∷ [])
events_of f e m outcome.Busy (action.Take x) = at_end e x (finds_busy m ((f.end e).taker_stand) ∷ pop ((f.end e).taker_stand) None ∷ [])
events_of f e m outcome.Again (action.Take x) = at_end e x (pop ((f.end e).taker_stand) None ∷ advance ∷ [])
events_of f e m outcome.Busy (action.Look x) = at_end e x (finds_busy_at m (looked f e))
events_of f e m (outcome.Clear (Some k)) (action.Look x) = at_end e x (at_gate k look (gives_rights (rights_of m)) ∷ [])
events_of f e m (outcome.Adopted n) (action.Adopt x a) = at_end e x (add (rights_of m) ∷ [])
events_of f e m outcome.Done (action.Close x) = at_end e x (at_gate ((f.end e).newest) close says_done ∷ [])
events_of f e m outcome.Busy (action.Sweep x) = at_end e x (finds_busy_at m (unsettled f e))
events_of f e m (outcome.Discarded vs) (action.Sweep x) = at_end e x (sweeping vs ((f.end e).taker_stand) ((f.end e).newest - (f.end e).taker_stand + 1))
events_of f e m _ _ = []

-- the events happen one after another, from the mailbox on
abbrev pub Happen : (end lines : ℕ) → Mailbox OneRight → List (MailboxEvent OneRight) → Type 0
Happen end lines m [] = Unit {0}
Happen end lines m (event ∷ events) = MailboxStep (λ k line right. IsTrue (has_right k line right)) end lines m event (after_event m event) × Happen end lines (after_event m event) events

-- A pair that fits is its events at each mailbox that shows the history at an end: they happen there, and the mailbox
-- after them shows the history with the pair. Where there is no event, that is the mailbox as it was.
abbrev pub PairsAreEvents : Type 0
PairsAreEvents = (h : History) (p : Pair) (e : ℕ) (m : Mailbox OneRight) → Legal h → Fits h p → e < ends h → ShowsMailbox h e [] m
    → (let events = events_of (facts h) e m p.1 p.0.action in Happen e (lines_of (kind h e)) m events × ShowsMailbox (h ++ p ∷ []) e [] (after_events m events))

-- ==== The mailbox of an end after a history: what the events that its pairs are make of the mailbox as the end was made.

-- the mailbox of an end as it is made: one queue, at which each of its lines stands
abbrev pub first_mailbox : Option Kind → Mailbox OneRight
first_mailbox kind = new_mailbox (replicate (lines_of kind) tt)

-- the mailbox as it is made, where the end is made so, or else as it was
abbrev pub made_as : Option Kind → Mailbox OneRight → Mailbox OneRight
made_as (Some kind) m = first_mailbox (Some kind)
made_as None m = m

-- the mailbox of an end after an answered step
abbrev pub after_pair : Facts → ℕ → Mailbox OneRight → Outcome → Action → Mailbox OneRight
after_pair f e m o a = made_as (kind_after e None o a) (after_events m (events_of f e m o a))

-- the mailbox after the second list of pairs, which come after those of the first
abbrev pub mailbox_from : ℕ → Mailbox OneRight → History → History → Mailbox OneRight
mailbox_from e m past [] = m
mailbox_from e m past (p ∷ rest) = mailbox_from e (after_pair (facts past) e m p.1 p.0.action) (past ++ p ∷ []) rest

-- the mailbox of the end, which has no line until it is made
abbrev pub mailbox : History → ℕ → Mailbox OneRight
mailbox h e = mailbox_from e (first_mailbox None) [] h

-- With a pair that fits the mailbox of an end goes on by exactly the events that the pair is there. An end that the pair
-- makes has a new mailbox.
pub record GoesOn (h : History) (p : Pair) (e : ℕ) : Type 0 where
  pub happen : e < ends h → Happen e (lines_of (kind h e)) (mailbox h e) (events_of (facts h) e (mailbox h e) p.1 p.0.action)
  pub after : e < ends h → mailbox (h ++ p ∷ []) e ≡ after_events (mailbox h e) (events_of (facts h) e (mailbox h e) p.1 p.0.action)
  pub made : ends h ≤ e → e < ends (h ++ p ∷ []) → mailbox (h ++ p ∷ []) e ≡ first_mailbox (kind (h ++ p ∷ []) e)

-- the mailbox of each end shows the history there
abbrev pub EachShows : History → Type 0
EachShows h = (e : ℕ) → e < ends h → ShowsMailbox h e [] (mailbox h e)

-- the queues that the core keeps of each end are those of its mailbox
abbrev pub KeepsMailboxes : Core → History → Type 0
KeepsMailboxes core h = (e : ℕ) (x : End) → slice_get core.ends e ≡ Some x → HoldsKept x (mailbox h e)

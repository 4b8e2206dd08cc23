-- A mailbox, the queues of one end, as a machine (this project's own): queue by queue its gate and what was put,
-- held and taken there, and where the lines and the taker stand. The ends of the core are such mailboxes.
use Rattle.std.specs.Prelude.{if◌then◌else◌, ◌++◌, ◌+◌, ◌-◌, ◌<◌, ◌==◌, ◌∷◌, ◌≡◌, ◌≢◌, ◌≤◌, ◌⊎◌}
use Rattle.hub_core.specs.Words.{Bool, Envelope, Inside, IsTrue, List, None, Option, Out, Some, Turned, [], false, flat_map, fold, length, map, option_to_list, slice_get, slice_index_or, slice_set, true, ℕ}
use Rattle.hub_core.specs.GateMachine.{Gate, IsAt, IsGateOf, Steps, busy, opened, with_flags, with_home, with_none, with_phase}
use Rattle.hub_core.specs.QueueMachine.{IsQueue, MayPush, Queue, new_queue, popped, pushed}
use Rattle.hub_core.specs.Notions.{Prefix, by}
use Rattle.hub_core.specs.GateMachine as machine

-- the gates and the queues, by epoch; at which epoch each line stands, and at which the taker
pub record Mailbox (R : Type 0) : Type 0 where
  pub gates : List (Gate R)
  pub queues : List Queue
  pub stands : List ℕ
  pub taker : ℕ

-- a mailbox as it is made: one queue with a gate that has a right for each line
abbrev pub new_mailbox : {R : Type 0} → List R → Mailbox R
new_mailbox rights = record { gates = opened rights ∷ []; queues = new_queue ∷ []; stands = map (λ _. 0) rights; taker = 0 }

module _ {R : Type 0} (m : Mailbox R) where
  -- this is the gate of epoch k
  abbrev pub GateAt : ℕ → Gate R → Type 0
  GateAt k g = slice_get m.gates k ≡ Some g

  -- this is the queue of epoch k
  abbrev pub QueueAt : ℕ → Queue → Type 0
  QueueAt k q = slice_get m.queues k ≡ Some q

  -- the line stands at epoch k
  abbrev pub StandsAt : ℕ → ℕ → Type 0
  StandsAt line k = slice_get m.stands line ≡ Some k

  -- epoch k is the newest
  abbrev pub IsNewest : ℕ → Type 0
  IsNewest k = k + 1 ≡ length m.gates

  -- what a line put in all queues, the oldest first
  abbrev pub put_by : ℕ → List Envelope
  put_by line = flat_map (λ q. q.put line) m.queues

  -- what was taken out of all queues, the oldest first
  abbrev pub got_from : List Envelope
  got_from = flat_map (λ q. q.got) m.queues

-- What holds of the mailbox of an end with so many lines, whatever happened there.
pub record IsMailbox {R : Type 0} (end lines : ℕ) (m : Mailbox R) : Type 0 where
  -- there are as many queues as gates; each line stands at one, and so does the taker: there is at least one
  pub queues : length m.queues ≡ length m.gates
  pub stands : length m.stands ≡ lines
  pub stands_within : (line k : ℕ) → StandsAt m line k → k < length m.gates
  pub taker_within : m.taker < length m.gates
  -- gates and queues are those of the machines
  pub each_gate : (k : ℕ) (g : Gate R) → GateAt m k g → IsGateOf lines g
  pub each_queue : (k : ℕ) (q : Queue) → QueueAt m k q → IsQueue end k lines q
  -- each gate but the newest is moved and not closed, and the newest is not moved
  pub retired : (k : ℕ) (g : Gate R) → GateAt m k g → k + 1 < length m.gates → (g.moved ≡ true) × (g.closed ≡ false)
  pub newest : (k : ℕ) (g : Gate R) → GateAt m k g → IsNewest m k → g.moved ≡ false
  -- a line is out at each gate but the one where it stands, and has put nothing in newer queues
  pub out_elsewhere : (line place k : ℕ) (g : Gate R) → StandsAt m line place → GateAt m k g → k ≢ place → IsAt g line Out
  pub nothing_put_ahead : (line place k : ℕ) (q : Queue) → StandsAt m line place → QueueAt m k q → place < k → q.put line ≡ []
  -- a line is inside only from the taker's queue on, and nothing was taken out of queues newer than its own
  pub inside_from_taker : (line k : ℕ) (g : Gate R) → GateAt m k g → IsAt g line Inside → m.taker ≤ k
  pub nothing_got_ahead : (line k newer : ℕ) (g : Gate R) (q : Queue) → GateAt m k g → IsAt g line Inside → QueueAt m newer q → k < newer → q.got ≡ []
  -- queues older than the taker's hold nothing
  pub nothing_held_before : (k : ℕ) (q : Queue) → QueueAt m k q → k < m.taker → q.held ≡ []
  -- of two queues the older holds nothing, or nothing was taken out of the newer
  pub in_turn : (older newer : ℕ) (p q : Queue) → QueueAt m older p → QueueAt m newer q → older < newer → (p.held ≡ []) ⊎ (q.got ≡ [])
  -- while the newest gate is open nothing was taken out of queues newer than the taker's
  pub nothing_got_while_open : (k last : ℕ) (g : Gate R) (q : Queue) → IsNewest m last → GateAt m last g → g.closed ≡ false → QueueAt m k q → m.taker < k → q.got ≡ []

-- ==== What may happen at a mailbox, and what it makes of it.

-- Of its line the queue holds this envelope first. Between two lines the choice is free.
abbrev pub HoldsFirst : Queue → Envelope → Type 0
HoldsFirst q v = (rest : List Envelope) × (by v.line.0 q.held ≡ v ∷ rest)

-- the envelopes without the first of the line
abbrev pub without_first : ℕ → List Envelope → List Envelope
without_first line [] = []
without_first line (v ∷ vs) = if v.line.0 == line then vs else v ∷ without_first line vs

-- the queue after the envelope was taken out; a pop takes out the one that is held first of all
abbrev pub taken_out : Queue → Envelope → Queue
taken_out q v = record { put = q.put; held = without_first v.line.0 q.held; got = q.got ++ v ∷ [] }

module _ {R : Type 0} (m : Mailbox R) where
  -- the mailbox with another gate or queue at an epoch
  abbrev pub with_gate : ℕ → Gate R → Mailbox R
  with_gate k g = record m { gates = slice_set m.gates k g }

  abbrev pub with_queue : ℕ → Queue → Mailbox R
  with_queue k q = record m { queues = slice_set m.queues k q }

  -- the mailbox with a line or the taker at another epoch
  abbrev pub with_stand : ℕ → ℕ → Mailbox R
  with_stand line k = record m { stands = slice_set m.stands line k }

  abbrev pub with_taker : ℕ → Mailbox R
  with_taker k = record m { taker = k }

  -- the mailbox with one queue more, whose gate opens with these rights
  abbrev pub with_new : List R → Mailbox R
  with_new rights = record m { gates = m.gates ++ opened rights ∷ []; queues = m.queues ++ new_queue ∷ [] }

  -- Where an event of a gate happens: a line's where the line stands, enable and close at the newest gate, a
  -- look at any. No gate is retired without a new queue.
  abbrev pub HappensAt : ℕ → machine.Event R → Type 0
  HappensAt k (machine.enter line) = StandsAt m line k
  HappensAt k (machine.leave line right) = StandsAt m line k
  HappensAt k (machine.turn_back line) = StandsAt m line k
  HappensAt k machine.enable = IsNewest m k
  HappensAt k machine.close = IsNewest m k
  HappensAt k machine.look = Unit {0}
  HappensAt k machine.retire = ⊥

-- nobody is at the gate of this epoch, or its rights were collected
pub record IsSettled {R : Type 0} (m : Mailbox R) (k : ℕ) : Type 0 where
  pub gate : Gate R
  pub is_gate : GateAt m k gate
  pub left : (gate.collected ≡ true) ⊎ (busy gate ≡ 0)

-- a pop at the queue of this epoch finds none
pub record HoldsNothing {R : Type 0} (m : Mailbox R) (k : ℕ) : Type 0 where
  pub queue : Queue
  pub is_queue : QueueAt m k queue
  pub nothing : popped queue ≡ None

-- A sweep may pop at this epoch: the newest gate is closed, all queues from the taker's to this one are settled,
-- and those before this one hold nothing.
pub record MaySweep {R : Type 0} (m : Mailbox R) (k : ℕ) : Type 0 where
  pub newest : ℕ
  pub gate : Gate R
  pub is_newest : IsNewest m newest
  pub is_gate : GateAt m newest gate
  pub closed : gate.closed ≡ true
  pub from : m.taker ≤ k
  pub settled : (older : ℕ) → m.taker ≤ older → older ≤ k → IsSettled m older
  pub nothing : (older : ℕ) → m.taker ≤ older → older < k → HoldsNothing m older

-- what may happen at a mailbox, with what is answered
pub data MailboxEvent (R : Type 0) : Type 0 where
  -- an event of the gate of an epoch
  at_gate : ℕ → machine.Event R → machine.Answer R → MailboxEvent R
  push : Envelope → MailboxEvent R
  -- the queue of an epoch is asked for an envelope, and what is taken out
  pop : ℕ → Option Envelope → MailboxEvent R
  -- a line goes on to the next epoch
  hop : ℕ → MailboxEvent R
  -- the taker goes on to the next epoch
  advance : MailboxEvent R
  -- the newest gate is retired and a queue added, whose gate opens with these rights
  add : List R → MailboxEvent R

-- what an event puts into the mailbox, and what it takes out
abbrev pub put_in : {R : Type 0} → MailboxEvent R → List Envelope
put_in (push v) = v ∷ []
put_in _ = []

abbrev pub got_in : {R : Type 0} → MailboxEvent R → List Envelope
got_in (pop k found) = option_to_list found
got_in _ = []

-- One event: the mailbox before, and the mailbox after. `owns k line right` says that at epoch k this is a right of
-- the line.
pub data MailboxStep {R : Type 0} (owns : ℕ → ℕ → R → Type 0) (end lines : ℕ) (m : Mailbox R) : MailboxEvent R → Mailbox R → Type 0 where
  -- a gate's event changes that gate alone
  gate_steps : (k : ℕ) (g after : Gate R) (event : machine.Event R) (answer : machine.Answer R) → GateAt m k g → HappensAt m k event → Steps (owns k) g event answer after
      → MailboxStep owns end lines m (at_gate k event answer) (with_gate m k after)
  -- a line that is inside puts an envelope in the queue where it stands
  pushes : (k : ℕ) (g : Gate R) (q : Queue) (v : Envelope) → StandsAt m v.line.0 k → GateAt m k g → IsAt g v.line.0 Inside → QueueAt m k q → MayPush end k lines q v
      → MailboxStep owns end lines m (push v) (with_queue m k (pushed q v))
  -- the first of a line is taken out of the taker's queue, and in a sweep
  takes : (q : Queue) (v : Envelope) → QueueAt m m.taker q → HoldsFirst q v
      → MailboxStep owns end lines m (pop m.taker (Some v)) (with_queue m m.taker (taken_out q v))
  sweeps : (k : ℕ) (q : Queue) (v : Envelope) → MaySweep m k → QueueAt m k q → HoldsFirst q v
      → MailboxStep owns end lines m (pop k (Some v)) (with_queue m k (taken_out q v))
  -- a pop that finds none changes nothing
  finds_none : (k : ℕ) (q : Queue) → QueueAt m k q → popped q ≡ None
      → MailboxStep owns end lines m (pop k None) m
  -- a line that is out goes on from a retired queue
  hops : (line k : ℕ) (g : Gate R) → StandsAt m line k → k + 1 < length m.gates → GateAt m k g → IsAt g line Out
      → MailboxStep owns end lines m (hop line) (with_stand m line (k + 1))
  -- the taker goes on from a retired queue that is settled and holds nothing
  advances : m.taker + 1 < length m.gates → IsSettled m m.taker → HoldsNothing m m.taker
      → MailboxStep owns end lines m advance (with_taker m (m.taker + 1))
  -- an open mailbox is moved: its newest gate is retired, and a queue with an opened gate added
  adds : (k : ℕ) (g after : Gate R) (rights : List R) → IsNewest m k → GateAt m k g → g.closed ≡ false → Steps (owns k) g machine.retire machine.says_done after
      → length rights ≡ lines → ((line : ℕ) (right : R) → slice_get rights line ≡ Some right → owns (k + 1) line right)
      → MailboxStep owns end lines m (add rights) (with_new (with_gate m k after) rights)

-- ---- What an event makes of a mailbox, as a function.

module _ {R : Type 0} where
  -- what an event makes of a gate where it may happen and is answered so
  abbrev pub gate_after : Gate R → machine.Event R → machine.Answer R → Gate R
  gate_after g (machine.enter line) (machine.lets_in right) = with_home (with_phase g line Inside) line None
  gate_after g (machine.enter line) _ = with_phase g line Turned
  gate_after g (machine.leave line right) _ = with_home (with_phase g line Out) line (Some right)
  gate_after g (machine.turn_back line) _ = with_phase g line Out
  gate_after g machine.enable _ = with_flags g true g.moved g.closed
  gate_after g machine.retire _ = with_flags g g.enabled true g.closed
  gate_after g machine.close _ = with_flags g g.enabled g.moved true
  gate_after g machine.look (machine.gives_rights rights) = with_none g
  gate_after g machine.look _ = g

  -- the mailbox with a gate after an event, and with a queue after something was done with it
  abbrev pub with_gate_after : Mailbox R → ℕ → machine.Event R → machine.Answer R → Mailbox R
  with_gate_after m k event answer = with_gate m k (gate_after (slice_index_or m.gates k (opened [])) event answer)

  abbrev pub with_queue_after : Mailbox R → ℕ → (Queue → Queue) → Mailbox R
  with_queue_after m k change = with_queue m k (change (slice_index_or m.queues k new_queue))

  -- What an event makes of a mailbox where it may happen. An envelope is taken out wherever it waits in its queue.
  abbrev pub after_event : Mailbox R → MailboxEvent R → Mailbox R
  after_event m (at_gate k event answer) = with_gate_after m k event answer
  after_event m (push v) = with_queue_after m v.epoch (λ q. pushed q v)
  after_event m (pop k (Some v)) = with_queue_after m k (λ q. taken_out q v)
  after_event m (pop k None) = m
  after_event m (hop line) = with_stand m line (slice_index_or m.stands line 0 + 1)
  after_event m advance = with_taker m (m.taker + 1)
  after_event m (add rights) = with_new (with_gate_after m (length m.gates - 1) machine.retire machine.says_done) rights

  -- the mailbox after events, one after another
  abbrev pub after_events : Mailbox R → List (MailboxEvent R) → Mailbox R
  after_events m events = fold after_event m events

-- ==== What holds of every mailbox, and of the chain of its queues.

-- after these envelopes were put and those were taken out
pub record Grows {R : Type 0} (m : Mailbox R) (put got : List Envelope) (after : Mailbox R) : Type 0 where
  pub puts : (line : ℕ) → put_by after line ≡ put_by m line ++ by line put
  pub gots : got_from after ≡ got_from m ++ got

-- The laws of mailboxes, whichever rights are those of a line.
pub record ChainLaws (R : Type 0) : Type 0 where
  -- a new mailbox is one, and each event leaves it one
  pub opened : (end : ℕ) (rights : List R) → IsMailbox end (length rights) (new_mailbox rights)
  pub step : (owns : ℕ → ℕ → R → Bool) (end lines : ℕ) (m after : Mailbox R) (event : MailboxEvent R) → MailboxStep (λ k line right. IsTrue (owns k line right)) end lines m event after → IsMailbox end lines m → IsMailbox end lines after
  -- what a queue pops is the first of its line, and is taken out
  pub pops : (q rest : Queue) (v : Envelope) → popped q ≡ Some (v, rest) → HoldsFirst q v × (rest ≡ taken_out q v)
  -- what is put is appended to what its line put, and what is taken out to what was taken out
  pub grows : (owns : ℕ → ℕ → R → Bool) (end lines : ℕ) (m after : Mailbox R) (event : MailboxEvent R) → MailboxStep (λ k line right. IsTrue (owns k line right)) end lines m event after → IsMailbox end lines m → Grows m (put_in event) (got_in event) after
  -- line by line, what was taken out of all queues, joined, is a prefix of what was put there, joined
  pub chain : (end lines : ℕ) (m : Mailbox R) → IsMailbox end lines m → (line : ℕ) → Prefix (by line (got_from m)) (put_by m line)
  -- where a pop at the newest queue finds none, and the taker stands there, everything that was put was taken
  pub drained : (end lines : ℕ) (m : Mailbox R) (q : Queue) → IsMailbox end lines m → IsNewest m m.taker → QueueAt m m.taker q → popped q ≡ None → (line : ℕ) → by line (got_from m) ≡ put_by m line

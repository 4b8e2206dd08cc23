-- What the steps of a taker are answered: Start and Take (WHATWG HTML, "Message ports": `start()`, and an enabled queue as
-- a task source); who is at a queue, and what a Look and a Sweep are answered (this project's own); and what moves lines and ends.
use Rattle.std.specs.Prelude.{if◌then◌else◌, ◌&&◌, ◌++◌, ◌+◌, ◌-◌, ◌<◌, ◌==◌, ◌||◌, ◌∷◌, ◌≡◌}
use Rattle.hub_core.specs.Words.{AgentId, Arrived, Bool, EndId, Envelope, Kind, List, MAX_MOVES, MatchBool, None, Option, Outcome, Place, Port, Sender, Some, [], false, is_some, nat_le, nat_lt, not, suc, true, zero, ℕ}
use Rattle.hub_core.specs.Notions.{is_queue, lines_of, Facts, LineNow, Prefix, Rises, by, in_queue}
use Rattle.hub_core.specs.Posting.{holder, is_here, is_out, may_enter, phase_of_line}
use Rattle.hub_core.specs.declared.step.Outcome.TheVariants as outcome

-- ---- Look and Sweep

-- whether one of the numbers below a bound passes the test
abbrev pub any_below : (ℕ → Bool) → ℕ → Bool
any_below test zero = false
any_below test (suc n) = any_below test n || test n

-- whether the line's poster is inside or being turned back at the queue
abbrev pub is_away_at : ℕ → LineNow → Bool
is_away_at k y = not (is_out y.phase) && y.stand == k

-- whether the poster of some line of the end is inside or being turned back at the queue
abbrev pub someone_at : Facts → ℕ → ℕ → Bool
someone_at f x k = any_below (λ l. is_away_at k (f.line x l)) (lines_of (f.end x).kind)

-- The queue is clear, or nobody is inside or being turned back there.
abbrev pub is_settled : Facts → ℕ → ℕ → Bool
is_settled f x k = f.clear x k || not (someone_at f x k)

-- the first of n numbers, from the number k on, that fails the test
abbrev pub first_failing : (ℕ → Bool) → ℕ → ℕ → Option ℕ
first_failing test k zero = None
first_failing test k (suc n) = if test k then first_failing test (k + 1) n else Some k

-- how many queues a Look may look at: the retired ones from the taker's on, and the newest of a closed end
abbrev pub lookable : ℕ → ℕ → Bool → ℕ
lookable taker newest closed = (newest - taker) + (if closed then 1 else 0)

-- the oldest of these that isn't clear
abbrev pub looked : Facts → ℕ → Option ℕ
looked f x = first_failing (f.clear x) (f.end x).taker_stand (lookable (f.end x).taker_stand (f.end x).newest (f.end x).closed)

-- what is found at the queue, by whether somebody is there
abbrev pub found_at : (ℕ → Bool) → Option ℕ → Outcome
found_at someone None = outcome.Clear None
found_at someone (Some k) = if someone k then outcome.Busy else outcome.Clear (Some k)

-- A Look tests that the end is closed, or its taker at a retired queue; then it answers what it has found.
abbrev pub look_answer : Outcome → Facts → EndId → Outcome
look_answer found f e =
    if (f.end e.0).closed || nat_lt (f.end e.0).taker_stand (f.end e.0).newest then found else outcome.NotNow

-- the oldest queue from the taker's on that isn't settled
abbrev pub unsettled : Facts → ℕ → Option ℕ
unsettled f x = first_failing (is_settled f x) (f.end x).taker_stand ((f.end x).newest - (f.end x).taker_stand + 1)

-- every queue from the taker's to the newest is settled
abbrev pub all_settled : Facts → ℕ → Bool
all_settled f x = not (is_some (unsettled f x))

-- The envelopes are all that waits at the end, by queue: line by line what was taken, what was discarded before and they
-- are what was accepted. Between two lines of a queue the order is free.
pub record IsAllWaiting (f : Facts) (x : ℕ) (vs : List Envelope) : Type 0 where
  pub rises : Rises vs
  pub all : (line : ℕ) → by line ((f.taken x ++ f.discarded x) ++ vs) ≡ by line (f.accepted x)

-- what a Sweep is answered at a closed end whose queues are all settled
abbrev pub Sweeps : Facts → ℕ → Outcome → Type 0
Sweeps f x (outcome.Discarded vs) = IsAllWaiting f x vs
Sweeps f x _ = ⊥

-- A Sweep tests that the end is closed, and that every queue is settled.
abbrev pub FitsSweep : Facts → EndId → Outcome → Type 0
FitsSweep f e o =
    MatchBool ((f.end e.0).closed)
    (MatchBool (all_settled f e.0) (Sweeps f e.0 o) (o ≡ outcome.Busy))
    (o ≡ outcome.NotNow)

-- ---- Start and Take

abbrev pub start_answer : Facts → EndId → Outcome
start_answer f e =
    if (f.end e.0).closed then outcome.Closed
    else (if is_some (holder f e.0) then outcome.Started
    else outcome.NotNow)

-- The envelope is of the taker's queue, and the next of its line. Between two lines the choice is free.
pub record IsNext (f : Facts) (e : EndId) (v : Envelope) : Type 0 where
  pub end : v.end.0 ≡ e.0
  pub epoch : v.epoch ≡ (f.end e.0).taker_stand
  pub order : Prefix (by v.line.0 (f.taken e.0 ++ v ∷ [])) (by v.line.0 (f.accepted e.0))

-- the taker stands at the newest queue, and everything that was accepted was taken
pub record IsDrained (f : Facts) (e : EndId) : Type 0 where
  pub newest : (f.end e.0).taker_stand ≡ (f.end e.0).newest
  pub all : (line : ℕ) → by line (f.taken e.0) ≡ by line (f.accepted e.0)

-- the taker stands at a retired queue, and everything that was accepted was taken
pub record IsLeft (f : Facts) (e : EndId) : Type 0 where
  pub retired : (f.end e.0).taker_stand < (f.end e.0).newest
  pub all : (line : ℕ) → in_queue (f.end e.0).taker_stand (by line (f.taken e.0)) ≡ in_queue (f.end e.0).taker_stand (by line (f.accepted e.0))

-- what an open, enabled end with a running agent answers
abbrev pub Serves : Facts → EndId → Outcome → Type 0
Serves f e (outcome.Got v) = IsNext f e v
Serves f e outcome.Empty = IsDrained f e
Serves f e outcome.Busy = IsLeft f e × (is_settled f e.0 (f.end e.0).taker_stand ≡ false)
Serves f e outcome.Again = IsLeft f e × (is_settled f e.0 (f.end e.0).taker_stand ≡ true)
Serves f e _ = ⊥

-- A Take looks for a closed end, then for a running agent that has the end, then for an enabled queue, which serves it.
abbrev pub FitsTake : (Outcome → Type 0) → Facts → EndId → Outcome → Type 0
FitsTake Serves f e o =
    MatchBool ((f.end e.0).closed) (o ≡ outcome.Closed)
    (MatchBool (is_some (holder f e.0))
    (MatchBool ((f.end e.0).enabled) (Serves o) (o ≡ outcome.Disabled))
    (o ≡ outcome.NotNow))

-- ---- Hop, Adopt, Close and Hand (WHATWG HTML, "Message ports", the transfer and transfer-receiving steps; going on to a
-- newer queue is this project's own)

-- A Hop tests that its poster may enter and is out, and that the line stands at a retired queue.
abbrev pub hop_answer : Facts → Sender → Outcome
hop_answer f s =
    if may_enter f s && (is_out (phase_of_line f s) && nat_lt (f.line s.end.0 s.line.0).stand (f.end s.end.0).newest)
    then outcome.Hopped ((f.line s.end.0 s.line.0).stand + 1)
    else outcome.NotNow

abbrev pub is_arrived : AgentId → Option Place → Bool
is_arrived a (Some (Arrived b)) = a.0 == b.0
is_arrived a _ = false

-- An Adopt looks for a closed end; then it tests that the end has arrived at the agent, which runs; then how often the
-- end was adopted; then memory. The new queue is the newest.
abbrev pub adopt_answer : Facts → EndId → AgentId → Bool → Outcome
adopt_answer f e a refused =
    if (f.end e.0).closed then outcome.Closed
    else (if not (is_arrived a (f.end e.0).place && (f.agent a.0).runs) then outcome.NotNow
    else (if nat_le MAX_MOVES (f.end e.0).newest then outcome.TooManyMoves
    else (if refused then outcome.NoMemory
    else outcome.Adopted ((f.end e.0).newest + 1))))

-- whether the end is no port with its own poster inside or being turned back
abbrev pub is_released : (ℕ → ℕ → LineNow) → Option Kind → Bool
is_released line (Some (Port q)) = is_out (line q.0 0).phase
is_released line _ = true

-- whether an open end can be closed: it has a place where it can, and of a port its own poster is out
abbrev pub may_close : Facts → ℕ → Bool
may_close f e = is_here (f.end e).place && is_released f.line (f.end e).kind

-- A Close looks for a closed end, and then tests that the end can be closed.
abbrev pub close_answer : Facts → EndId → Outcome
close_answer f e =
    if (f.end e.0).closed then outcome.Closed
    else (if may_close f e.0 then outcome.Done
    else outcome.NotNow)

-- whether an agent may take over what this agent has: it is another one of so many that were made
abbrev pub may_take_over : ℕ → AgentId → Option AgentId → Bool
may_take_over agents b None = false
may_take_over agents b (Some a) = nat_lt b.0 agents && not (a.0 == b.0)

-- A Hand looks for a closed end; then it tests that the end is a client's or a worker's queue that a running agent has,
-- and that the other agent may take it over.
abbrev pub hand_answer : Facts → EndId → AgentId → Outcome
hand_answer f e b =
    if (f.end e.0).closed then outcome.Closed
    else (if is_queue (f.end e.0).kind && may_take_over f.agents b (holder f e.0) then outcome.Handed
    else outcome.NotNow)

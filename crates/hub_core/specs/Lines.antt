-- Where the posters of an end's lines are, at which queues its lines and its taker stand, and which queues are clear: nobody
-- can be inside them any more (this project's own; WHATWG HTML, "Message ports", moves the tasks of a transferred port to
-- the new port's queue).
use Rattle.std.specs.Prelude.{if◌then◌else◌, ◌&&◌, ◌+◌, ◌==◌}
use Rattle.hub_core.specs.Words.{Action, AgentId, Bool, Inside, None, Option, Out, Outcome, Phase, Sender, Some, Turned, false, fold, true, ℕ}
use Rattle.hub_core.specs.declared.step.Action.TheVariants as action
use Rattle.hub_core.specs.declared.step.Outcome.TheVariants as outcome
use Rattle.hub_core.specs.History.{History}

-- what was, or the new where the step is on this line of this end
abbrev pub on_line : {A : Type 0} → ℕ → ℕ → Sender → A → A → A
on_line x l s new old = if x == s.end.0 && l == s.line.0 then new else old

abbrev pub phase_after : ℕ → ℕ → Phase → Outcome → Action → Phase
phase_after x l phase outcome.In (action.Enter s) = on_line x l s Inside phase
phase_after x l phase outcome.Moved (action.Enter s) = on_line x l s Turned phase
phase_after x l phase outcome.Closed (action.Enter s) = on_line x l s Turned phase
phase_after x l phase outcome.Left (action.Leave s) = on_line x l s Out phase
phase_after x l phase _ _ = phase

-- A line is out before its first Enter and after each Leave. An Enter answered In puts it inside, and an Enter
-- answered Moved or Closed makes it turned.
abbrev pub phase : History → ℕ → ℕ → Phase
phase h x l = fold (λ q p. phase_after x l q p.1 p.0.action) Out h

abbrev pub adoptions_after : ℕ → ℕ → Outcome → Action → ℕ
adoptions_after x n (outcome.Adopted k) (action.Adopt t a) = if x == t.0 then n + 1 else n
adoptions_after x n _ _ = n

-- The newest queue of the end: how often the end was adopted. The queues below it are retired.
abbrev pub newest : History → ℕ → ℕ
newest h x = fold (λ q p. adoptions_after x q p.1 p.0.action) 0 h

abbrev pub hops_after : ℕ → ℕ → ℕ → Outcome → Action → ℕ
hops_after x l n (outcome.Hopped k) (action.Hop s) = on_line x l s (n + 1) n
hops_after x l n _ _ = n

-- the queue at which a line of the end stands: how often it went on
abbrev pub stand : History → ℕ → ℕ → ℕ
stand h x l = fold (λ q p. hops_after x l q p.1 p.0.action) 0 h

abbrev pub passed_after : ℕ → ℕ → Outcome → Action → ℕ
passed_after x n outcome.Again (action.Take t) = if x == t.0 then n + 1 else n
passed_after x n _ _ = n

-- the queue at which takes are made: how often the taker went on
abbrev pub taker_stand : History → ℕ → ℕ
taker_stand h x = fold (λ q p. passed_after x q p.1 p.0.action) 0 h

abbrev pub noticed_after : ℕ → ℕ → Bool → Outcome → Action → Bool
noticed_after x l noticed (outcome.Accepted n) (action.Notice s) = on_line x l s true noticed
noticed_after x l noticed _ _ = noticed

-- a Notice on the line was answered Accepted
abbrev pub noticed : History → ℕ → ℕ → Bool
noticed h x l = fold (λ q p. noticed_after x l q p.1 p.0.action) false h

abbrev pub held_after : ℕ → ℕ → Option AgentId → Outcome → Action → Option AgentId
held_after x l held (outcome.Line n) (action.Line e a) = on_line x l (record { end = e; line = n }) (Some a) held
held_after x l held outcome.Done (action.Back s) = on_line x l s None held
held_after x l held _ _ = held

-- The agent that holds a line of a client's or a worker's queue: the one that got it by a Line, until a Back.
abbrev pub held_by : History → ℕ → ℕ → Option AgentId
held_by h x l = fold (λ q p. held_after x l q p.1 p.0.action) None h

abbrev pub clear_after : ℕ → ℕ → Bool → Outcome → Action → Bool
clear_after x k clear (outcome.Clear (Some n)) (action.Look t) = if x == t.0 && k == n then true else clear
clear_after x k clear _ _ = clear

-- a Look found nobody inside or being turned back at this queue of the end
abbrev pub clear : History → ℕ → ℕ → Bool
clear h x k = fold (λ q p. clear_after x k q p.1 p.0.action) false h

-- What each step is answered: the steps of agents and of broadcast channels here, the others in `Posting` and `Taking`.
-- Which histories may come, and which of them can't be told apart from now on. Pairs that no case allows never come.
use Rattle.std.specs.Prelude.{◌≡◌, ◌++◌, ◌↔◌, ◌∷◌, if◌then◌else◌, ◌&&◌, ◌+◌, ◌||◌, ◌==◌}
use Rattle.hub_core.specs.Words.{Action, AgentId, Bool, Client, EndId, Group, Kind, List, MAX_AGENTS, MAX_ENDS, MAX_LINES, None, Option, Outcome, Sender, Some, Worker, [], false, filter, is_some, nat_le, nat_lt, not, option_map, suc, true, unwrap_or, zero, ℕ}
use Rattle.hub_core.specs.declared.step.Action.TheVariants as action
use Rattle.hub_core.specs.declared.step.Outcome.TheVariants as outcome
use Rattle.hub_core.specs.Notions.{Pair, History, Facts, facts, has_end, is_of_group, is_queue, lines_of, maker_of}
use Rattle.hub_core.specs.Posting.{enter_answer, holder, is_empty, is_holder, is_out, is_posting, is_with, leave_answer, notice_answer, owner, phase_of_line, push_answer, put_there}
use Rattle.hub_core.specs.Taking.{FitsSweep, FitsTake, Serves, adopt_answer, any_below, close_answer, first_failing, found_at, hand_answer, hop_answer, is_arrived, look_answer, looked, someone_at, start_answer}

-- ==== The steps that make agents and ends (WHATWG HTML, "Message channels": a new channel is two entangled ports; the limits
-- are this project's own)

-- An Agent tests memory and then the limit. A new agent gets the least number not given.
abbrev pub agent_answer : Facts → Bool → Outcome
agent_answer f refused =
    if refused then outcome.NoMemory
    else (if nat_le MAX_AGENTS f.agents then outcome.TooManyAgents
    else outcome.Agent (record { 0 = f.agents }))

-- A Channel tests that its agent runs, then the limit, then memory. The new ends get the two least numbers not given.
abbrev pub channel_answer : Facts → AgentId → Bool → Outcome
channel_answer f a refused =
    if not (f.agent a.0).runs then outcome.NotNow
    else (if nat_lt MAX_ENDS (f.ends + 2) then outcome.TooManyEnds
    else (if refused then outcome.NoMemory
    else outcome.Ends (record { 0 = f.ends }) (record { 0 = f.ends + 1 })))

-- whether the queue of this kind, a client's or a worker's, is what the end is
abbrev pub is_queue_of : Kind → Option Kind → Bool
is_queue_of Client (Some Client) = true
is_queue_of Worker (Some Worker) = true
is_queue_of _ _ = false

-- whether the agent has its queue of this kind
abbrev pub has_one : Kind → AgentId → Facts → Bool
has_one kind a f = any_below (λ x. is_queue_of kind (f.end x).kind && is_with a (f.end x).place) f.ends

-- A Client and a Worker test that their agent runs and has no such queue, as the first argument says; then the limit, then
-- memory.
abbrev pub queue_answer : Bool → Facts → AgentId → Bool → Outcome
queue_answer has_none f a refused =
    if not ((f.agent a.0).runs && has_none) then outcome.NotNow
    else (if nat_le MAX_ENDS f.ends then outcome.TooManyEnds
    else (if refused then outcome.NoMemory
    else outcome.End (record { 0 = f.ends })))

-- ==== Line and Back (this project's own; in W3C Service Workers such a queue gets the messages of any client or worker)

-- the least line of the end that no agent holds
abbrev pub free_line : Facts → ℕ → Option ℕ
free_line f x = first_failing (λ l. is_some (f.line x l).held_by) 0 MAX_LINES

abbrev pub line_found : Option ℕ → Outcome
line_found None = outcome.NoLine
line_found (Some l) = outcome.Line (record { 0 = l })

-- A Line tests that its agent runs; then that the end is a client's or a worker's queue, closed or not; then it looks for
-- a line that no agent holds, which is the first argument.
abbrev pub line_answer : Option ℕ → Facts → EndId → AgentId → Outcome
line_answer free f e a =
    if not (f.agent a.0).runs then outcome.NotNow
    else (if not (is_queue (f.end e.0).kind) then outcome.NoSuchEnd
    else line_found free)

-- A Back tests that an agent, running or not, holds the line, and that its poster is out.
abbrev pub back_answer : Facts → Sender → Outcome
back_answer f s =
    if is_some (f.line s.end.0 s.line.0).held_by && is_out (phase_of_line f s) then outcome.Done else outcome.NotNow

-- ==== Order and See (W3C Service Workers, "Terminate Service Worker"; WHATWG HTML, "terminate a worker")

-- whether the line's poster is the agent's, and is inside or being turned back
abbrev pub is_away_of : Facts → AgentId → ℕ → ℕ → Bool
is_away_of f a x l = not (is_out (f.line x l).phase) && is_holder a (owner f x l)

-- whether some poster of the agent is inside or being turned back
abbrev pub has_away : Facts → AgentId → Bool
has_away f a = any_below (λ x. any_below (is_away_of f a x) (lines_of (f.end x).kind)) f.ends

-- the numbers below a bound that pass the test, rising
abbrev pub ends_below : (ℕ → Bool) → ℕ → List EndId
ends_below test zero = []
ends_below test (suc n) = ends_below test n ++ (if test n then record { 0 = n } ∷ [] else [])

-- the ends that the agent has, and those that have arrived at it
abbrev pub ends_at : Facts → AgentId → List EndId
ends_at f a = ends_below (λ x. is_with a (f.end x).place || is_arrived a (f.end x).place) f.ends

-- An Order tests that the agent was made, running or ending.
abbrev pub order_answer : Facts → AgentId → Outcome
order_answer f a = if nat_lt a.0 f.agents then outcome.Ordered else outcome.NotNow

-- A See tests that the agent was made, and that none of its posters is away, as the first argument says; then it looks for
-- an order. An agent that finds one is ending, with these ends.
abbrev pub see_answer : Bool → Facts → AgentId → Outcome
see_answer none_away f a =
    if not (nat_lt a.0 f.agents && none_away) then outcome.NotNow
    else (if (f.agent a.0).ordered then outcome.Ending (ends_at f a) else outcome.GoingOn)

-- ==== Member, Cast and Part (WHATWG HTML, "Broadcasting to other browsing contexts", the steps of
-- `new BroadcastChannel(name)`, `postMessage(message)` and `close()`)

-- whether a cast has destinations left
abbrev pub is_casting : Facts → Bool
is_casting f = is_some f.roster.cast

-- A Member tests that its agent runs and no cast has destinations left, that the agent has an origin, then the limit, then
-- memory.
abbrev pub member_answer : Facts → AgentId → Bool → Outcome
member_answer f a refused =
    if not ((f.agent a.0).runs && not (is_casting f)) then outcome.NotNow
    else (if not (is_some (f.roster.origin a.0)) then outcome.NoOrigin
    else (if nat_le MAX_ENDS f.ends then outcome.TooManyEnds
    else (if refused then outcome.NoMemory
    else outcome.End (record { 0 = f.ends }))))

abbrev pub destinations_of : Facts → ℕ → Group → List EndId
destinations_of f x g = filter (λ y. is_of_group g (f.roster.group y.0) && not (y.0 == x)) f.roster.members

-- the members of the end's origin and name but the end, in the order in which they joined, closed ones among them
abbrev pub destinations : Facts → ℕ → List EndId
destinations f x = unwrap_or (option_map (destinations_of f x) (f.roster.group x)) []

-- A Cast tests that the end is a broadcast channel and no cast has destinations left; that it hasn't parted, as the first
-- argument says, and isn't closed; that a running agent has it; and that no ports are listed. It goes to the ends of the second.
abbrev pub cast_answer : Bool → List EndId → Facts → EndId → List EndId → Outcome
cast_answer is_member ends f e ports =
    if not (is_some (maker_of (f.end e.0).kind) && not (is_casting f)) then outcome.NotNow
    else (if not (is_member && not (f.end e.0).closed) then outcome.InvalidState
    else (if not (is_some (holder f e.0)) then outcome.NotNow
    else (if not (is_empty ports) then outcome.NotTransferable
    else outcome.Destinations ends)))

-- A Part tests that the end is a member, as the first argument says, and that no cast has destinations left.
abbrev pub part_answer : Bool → Facts → Outcome
part_answer is_member f = if is_member && not (is_casting f) then outcome.Done else outcome.NotNow

-- ==== Each step

-- the last but one argument says whether memory is refused in the step
abbrev pub Answers : Facts → Action → Bool → Outcome → Type 0
Answers f (action.Agent origin) refused o = o ≡ agent_answer f refused
Answers f (action.Channel a) refused o = o ≡ channel_answer f a refused
Answers f (action.Client a) refused o = o ≡ queue_answer (not (has_one Client a f)) f a refused
Answers f (action.Worker a) refused o = o ≡ queue_answer (not (has_one Worker a f)) f a refused
Answers f (action.Member a name) refused o = o ≡ member_answer f a refused
Answers f (action.Line e a) refused o = o ≡ line_answer (free_line f e.0) f e a
Answers f (action.Back s) refused o = o ≡ back_answer f s
Answers f (action.Enter s) refused o = o ≡ enter_answer f s
Answers f (action.Push s ports body) refused o = o ≡ push_answer (is_posting f s) (put_there f s) f s ports body refused
Answers f (action.Notice s) refused o = o ≡ notice_answer (is_posting f s) (put_there f s) f s refused
Answers f (action.Leave s) refused o = o ≡ leave_answer f s
Answers f (action.Hop s) refused o = o ≡ hop_answer f s
Answers f (action.Start e) refused o = o ≡ start_answer f e
Answers f (action.Take e) refused o = FitsTake (Serves f e) f e o
Answers f (action.Look e) refused o = o ≡ look_answer (found_at (someone_at f e.0) (looked f e.0)) f e
Answers f (action.Adopt e a) refused o = o ≡ adopt_answer f e a refused
Answers f (action.Close e) refused o = o ≡ close_answer f e
Answers f (action.Sweep e) refused o = FitsSweep f e o
Answers f (action.Hand e b) refused o = o ≡ hand_answer f e b
Answers f (action.Order a) refused o = o ≡ order_answer f a
Answers f (action.See a) refused o = o ≡ see_answer (not (has_away f a)) f a
Answers f (action.Cast e ports body) refused o = o ≡ cast_answer (has_end e.0 f.roster.members) (destinations f e.0) f e ports
Answers f (action.Part e) refused o = o ≡ part_answer (has_end e.0 f.roster.members) f

-- Refusals, Empty, Busy, a Look that found no queue, and Closed of any step but an Enter change nothing. An Enter that was
-- turned back changes where its poster is.
abbrev pub changes_nothing : Outcome → Action → Bool
changes_nothing outcome.NotNow a = true
changes_nothing outcome.NoMemory a = true
changes_nothing outcome.TooManyAgents a = true
changes_nothing outcome.TooManyEnds a = true
changes_nothing outcome.TooManyPorts a = true
changes_nothing outcome.Disabled a = true
changes_nothing outcome.Empty a = true
changes_nothing outcome.Busy a = true
changes_nothing outcome.TooManyMoves a = true
changes_nothing outcome.NoSuchEnd a = true
changes_nothing outcome.NoLine a = true
changes_nothing outcome.NoOrigin a = true
changes_nothing outcome.InvalidState a = true
changes_nothing outcome.NotTransferable a = true
changes_nothing outcome.GoingOn a = true
changes_nothing (outcome.Clear None) a = true
changes_nothing outcome.Closed (action.Start e) = true
changes_nothing outcome.Closed (action.Take e) = true
changes_nothing outcome.Closed (action.Adopt e a) = true
changes_nothing outcome.Closed (action.Close e) = true
changes_nothing outcome.Closed (action.Hand e b) = true
changes_nothing _ _ = false

-- the steps after which more is kept than before: a new agent, new ends, an envelope, a new queue; and a
-- Sweep, a See and a Cast, which answer a list
abbrev pub takes_memory : Action → Bool
takes_memory (action.Agent origin) = true
takes_memory (action.Channel a) = true
takes_memory (action.Client a) = true
takes_memory (action.Worker a) = true
takes_memory (action.Member a name) = true
takes_memory (action.Push s ports body) = true
takes_memory (action.Notice s) = true
takes_memory (action.Adopt e a) = true
takes_memory (action.Sweep e) = true
takes_memory (action.See a) = true
takes_memory (action.Cast e ports body) = true
takes_memory _ = false

-- ==== Histories (this project's own)

-- the pair fits the history
abbrev pub Fits : History → Pair → Type 0
Fits h p = Answers (facts h) p.0.action p.0.memory_refused p.1

-- each pair of the second list fits the pairs before it: those of the first list, and then those on its left
abbrev pub LegalAfter : History → History → Type 0
LegalAfter past [] = Unit {0}
LegalAfter past (p ∷ rest) = Fits past p × LegalAfter (past ++ p ∷ []) rest

-- every pair fits the pairs before it
abbrev pub Legal : History → Type 0
Legal h = LegalAfter [] h

-- whatever comes is legal after the one history exactly where it is legal after the other
abbrev pub Same : History → History → Type 0
Same h k = (more : History) → LegalAfter h more ↔ LegalAfter k more

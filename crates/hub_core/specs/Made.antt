-- Which agents and ends were made (WHATWG HTML, "Message channels"; W3C Service Workers, the queues of the messages to a
-- client and to a worker).
use Rattle.std.specs.Prelude.{if◌then◌else◌, ◌+◌, ◌==◌}
use Rattle.hub_core.specs.Words.{Action, AgentId, Bool, Client, Kind, MAX_LINES, Member, None, Option, Outcome, Port, Sender, Some, Worker, false, fold, option_map, true, ℕ}
use Rattle.hub_core.specs.declared.step.Action.TheVariants as action
use Rattle.hub_core.specs.declared.step.Outcome.TheVariants as outcome
use Rattle.hub_core.specs.History.{History}

abbrev pub agents_after : ℕ → Outcome → Action → ℕ
agents_after n (outcome.Agent a) (action.Agent origin) = n + 1
agents_after n _ _ = n

-- how many agents were made
abbrev pub agents : History → ℕ
agents h = fold (λ n p. agents_after n p.1 p.0.action) 0 h

abbrev pub runs_after : ℕ → Bool → Outcome → Action → Bool
runs_after x runs (outcome.Agent a) (action.Agent origin) = if x == a.0 then true else runs
runs_after x runs (outcome.Ending es) (action.See a) = if x == a.0 then false else runs
runs_after x runs _ _ = runs

-- An agent runs from its making on, until a See of it is answered Ending: then it is ending.
abbrev pub runs : History → ℕ → Bool
runs h x = fold (λ r p. runs_after x r p.1 p.0.action) false h

abbrev pub ordered_after : ℕ → Bool → Outcome → Action → Bool
ordered_after x ordered outcome.Ordered (action.Order a) = if x == a.0 then true else ordered
ordered_after x ordered _ _ = ordered

-- the agent was ordered to end
abbrev pub ordered : History → ℕ → Bool
ordered h x = fold (λ r p. ordered_after x r p.1 p.0.action) false h

abbrev pub ends_after : ℕ → Outcome → Action → ℕ
ends_after n (outcome.Ends e f) (action.Channel a) = n + 2
ends_after n (outcome.End e) (action.Client a) = n + 1
ends_after n (outcome.End e) (action.Worker a) = n + 1
ends_after n (outcome.End e) (action.Member a name) = n + 1
ends_after n _ _ = n

-- how many ends were made
abbrev pub ends : History → ℕ
ends h = fold (λ n p. ends_after n p.1 p.0.action) 0 h

abbrev pub kind_after : ℕ → Option Kind → Outcome → Action → Option Kind
kind_after x kind (outcome.Ends e f) (action.Channel a) = if x == e.0 then Some (Port f) else (if x == f.0 then Some (Port e) else kind)
kind_after x kind (outcome.End e) (action.Client a) = if x == e.0 then Some Client else kind
kind_after x kind (outcome.End e) (action.Worker a) = if x == e.0 then Some Worker else kind
kind_after x kind (outcome.End e) (action.Member a name) = if x == e.0 then Some (Member a) else kind
kind_after x kind _ _ = kind

-- What an end is, by the step that made it: a port that is entangled with the other one of its Channel, a client's or a
-- worker's queue, or a broadcast channel of its agent.
abbrev pub kind : History → ℕ → Option Kind
kind h x = fold (λ q p. kind_after x q p.1 p.0.action) None h

-- the port that a port is entangled with
abbrev pub peer_of : Option Kind → Option ℕ
peer_of (Some (Port q)) = Some q.0
peer_of _ = None

abbrev pub peer : History → ℕ → Option ℕ
peer h x = peer_of (kind h x)

-- whether the end is a client's or a worker's queue
abbrev pub is_queue : Option Kind → Bool
is_queue (Some Client) = true
is_queue (Some Worker) = true
is_queue _ = false

-- the agent that made a broadcast channel
abbrev pub maker_of : Option Kind → Option AgentId
maker_of (Some (Member a)) = Some a
maker_of _ = None

-- the line that a port posts on: line 0 of its peer
abbrev pub line_port_posts_on : History → ℕ → Option Sender
line_port_posts_on h x = option_map (λ q. record { end = record { 0 = q }; line = record { 0 = 0 } }) (peer h x)

-- how many lines an end has
abbrev pub lines_of : Option Kind → ℕ
lines_of (Some Client) = MAX_LINES
lines_of (Some Worker) = MAX_LINES
lines_of None = 0
lines_of _ = 1

-- For private clauses: what the core keeps, what it answers by it, and what it is after a step.
use Rattle.std.specs.Prelude.{if◌then◌else◌, ◌&&◌, ◌++◌, ◌+◌, ◌-◌, ◌==◌, ◌||◌, ◌∷◌, ◌≡◌}
use Rattle.hub_core.specs.Words.{[], false, length, slice_get, Agent, AgentId, Arrived, Bool, Client, End, EndId, Envelope, Err, Gone, IfSome, InFlight, Inside, Kind, Line, List, MAX_LINES, Member, None, Ok, Option, Out, Outcome, Phase, Place, Port, Result, Sender, Some, Turned}
use Rattle.hub_core.specs.Words.{With, Worker, drop, flat_map, fold, is_some, list_any, nat_le, nat_lt, not, option_map, position, option_and_then, replicate, slice_index_or, slice_set, true, unwrap_or, ℕ, Action, Swept}
use Rattle.hub_core.specs.CoreState.{CoreState}
use Rattle.hub_core.specs.Notions.{Facts, facts, no_roster, cast_to, cast_after, lines_of, named_envelope, named_notice}
use Rattle.hub_core.specs.Shows.{agent_now, end_now, line_now, kept_lines}
use Rattle.hub_core.specs.declared.step.Outcome.TheVariants as outcome
use Rattle.hub_core.specs.declared.posting.Posting.{Posting}
use Rattle.hub_core.specs.Posting.{holder, is_inside, is_out, owner}
use Rattle.hub_core.specs.declared.step.Action.TheVariants as action
use Rattle.hub_core.specs.Taking.{is_released}

-- ==== What the core keeps, seen as facts: what is defined over the facts of a history can be said of a core too.

-- What the core doesn't keep is as at first: which queues are clear, what was accepted, taken and discarded, and the members
-- of the roster, in order, with their groups.
abbrev pub seen : CoreState → Facts
seen c = record (facts []) {
  agents = length c.agents;
  ends = length c.ends;
  agent = λ a. agent_now (slice_get c.agents a);
  end = λ x. end_now (slice_get c.ends x);
  line = λ x l. line_now (slice_get (kept_lines (slice_get c.ends x)) l);
  roster = record no_roster { origin = λ a. unwrap_or (slice_get c.roster.members.origins a) None; cast = c.roster.cast };
}

-- ==== What the parts of the core do to what it keeps.

-- whether the poster of some line is inside or being turned back at a queue
abbrev pub is_anyone_at : ℕ → List Line → Bool
is_anyone_at epoch lines = list_any (λ y. not (is_out y.phase) && y.epoch == epoch) lines

-- whether nobody is inside or being turned back at a queue, or it is clear
abbrev pub kept_settled : End → ℕ → Bool
kept_settled x epoch = nat_lt epoch x.looked || not (is_anyone_at epoch x.lines)

-- the queue that a look looks at
abbrev pub kept_looked : End → Option ℕ
kept_looked x = if nat_lt x.looked x.newest || (x.is_closed && x.looked == x.newest) then Some x.looked else None

-- the end with its taker at the next queue
abbrev pub advanced_end : End → End
advanced_end x = record x {
  taker = x.taker + 1;
  looked = if nat_lt x.looked (x.taker + 1) then x.taker + 1 else x.looked;
  queues = drop 1 x.queues;
}

-- what a take is answered whose queue holds nothing, and what it leaves
abbrev pub left_outcome : End → Outcome
left_outcome x =
    if nat_le x.newest x.taker then outcome.Empty
    else (if kept_settled x x.taker then outcome.Again else outcome.Busy)

-- the end with an agent, and with a new, disabled queue
abbrev pub adopted_end : AgentId → End → End
adopted_end a x = record x {
  place = With a;
  is_enabled = false;
  newest = x.newest + 1;
  queues = x.queues ++ [] ∷ [];
}

-- whether the queue is one of those that are kept
abbrev pub has_queue : End → ℕ → Bool
has_queue x epoch = nat_le x.taker epoch && nat_lt (epoch - x.taker) (length x.queues)

-- the line, where its poster is inside a queue of the end and no notice was put
abbrev pub posting_line : End → Option Line → Option Line
posting_line x None = None
posting_line x (Some y) = if is_inside y.phase && not y.has_noticed && has_queue x y.epoch then Some y else None

abbrev pub posting_at : Sender → Option End → Option (Kind × Line)
posting_at s found = option_and_then (λ x. option_map (λ y. (x.kind, y)) (posting_line x (slice_get x.lines s.line.0))) found

-- whether the line's poster may put an envelope
abbrev pub may_put : List End → Sender → Bool
may_put ends s = is_some (posting_at s (slice_get ends s.end.0))

-- the end with an envelope put by a line
abbrev pub put_end : End → Line → Envelope → End
put_end x y v = record x {
  lines = slice_set x.lines v.line.0 (record y { put = y.put + 1; has_noticed = v.notice });
  queues = slice_set x.queues (y.epoch - x.taker) (slice_index_or x.queues (y.epoch - x.taker) [] ++ v ∷ []);
}

-- what the taker's queue holds
abbrev pub taker_queue : End → List Envelope
taker_queue x = slice_index_or x.queues 0 []

abbrev pub front_taken : End → End
front_taken x = record x { queues = slice_set x.queues 0 (drop 1 (taker_queue x)) }

-- the list with this item at a place, or with the item of that place changed, where there is one
abbrev pub set_at : {A : Type 0} → ℕ → List A → Option A → List A
set_at n xs None = xs
set_at n xs (Some x) = slice_set xs n x

abbrev pub change_at : {A : Type 0} → (A → A) → ℕ → List A → List A
change_at change n xs = set_at n xs (option_map change (slice_get xs n))

-- a line that has put nothing
abbrev pub first_line : Line
first_line = record { phase = Out; epoch = 0; put = 0; has_noticed = false; held_by = None }

-- what is kept of a line; where there is none it is one that has put nothing
abbrev pub line_of : List End → Sender → Line
line_of ends s = unwrap_or (slice_get (kept_lines (slice_get ends s.end.0)) s.line.0) first_line

-- the ends with one line of one of them set or changed, where it is there
abbrev pub set_line : Sender → Line → List End → List End
set_line s y ends = change_at (λ x. record x { lines = slice_set x.lines s.line.0 y }) s.end.0 ends

abbrev pub change_line : (Line → Line) → Sender → List End → List End
change_line change s ends = set_line s (change (line_of ends s)) ends

abbrev pub in_phase : Phase → Line → Line
in_phase p y = record y { phase = p }

abbrev pub held_by : Option AgentId → Line → Line
held_by holder y = record y { held_by = holder }

-- a line at this queue, where it has put nothing
abbrev pub at_queue : ℕ → Line → Line
at_queue k y = record y { epoch = k; put = 0 }

-- the ends with one of them, and with those that the list names, at another place
abbrev pub end_moved : Place → List End → EndId → List End
end_moved p ends e = change_at (λ x. record x { place = p }) e.0 ends

abbrev pub moved_ends : List EndId → Place → List End → List End
moved_ends ports p ends = fold (end_moved p) ends ports

-- the ends after ports arrived at an agent
abbrev pub arrived_ends : Option AgentId → List EndId → List End → List End
arrived_ends None ports ends = ends
arrived_ends (Some a) ports ends = moved_ends ports (Arrived a) ends

-- the end of the sender has this line, and the queue at which it stands
abbrev pub HasQueue : List End → Sender → Line → Type 0
HasQueue ends s y = IfSome (slice_get ends s.end.0) (λ x. (has_queue x y.epoch ≡ true) × (slice_get x.lines s.line.0 ≡ Some y))

-- what a Push is answered, by the line on which it is put and the agent that posts
abbrev pub push_outcome : Result Posting Outcome → Outcome
push_outcome (Ok p) = outcome.Accepted (record { agent = p.agent; epoch = p.line.epoch; number = p.line.put })
push_outcome (Err o) = o

-- the ends after an envelope was put, its ports where they were
abbrev pub put_ends : List End → Envelope → List End
put_ends ends v = change_at (λ x. unwrap_or (option_map (λ y. put_end x y v) (slice_get x.lines v.line.0)) x) v.end.0 ends

-- the ends after an envelope was put on a line: an envelope more at its end, and its ports in flight
abbrev pub accept_ends : List End → Envelope → List End
accept_ends ends v = moved_ends v.ports InFlight (put_ends ends v)

abbrev pub closed_end : End → End
closed_end x = record x { is_closed = true; place = Gone }

-- some queues, one after another
abbrev pub joined : List (List Envelope) → List Envelope
joined queues = flat_map (λ q. q) queues

-- whether the poster of some line is inside or being turned back at a queue from this one on
abbrev pub is_anyone_from : ℕ → List Line → Bool
is_anyone_from epoch lines = list_any (λ y. not (is_out y.phase) && nat_le epoch y.epoch) lines

abbrev pub sweep_outcome_at : Option End → Outcome
sweep_outcome_at None = outcome.NotNow
sweep_outcome_at (Some x) =
    if not x.is_closed then outcome.NotNow
    else (if is_anyone_from x.looked x.lines then outcome.Busy
    else outcome.Discarded (joined x.queues))

-- the ports that the envelopes name
abbrev pub ports_of : List Envelope → List EndId
ports_of vs = flat_map (λ v. v.ports) vs

-- what a take at an open, enabled end gives
abbrev pub TakeServes : End → Outcome → Type 0
TakeServes x (outcome.Got v) = taker_queue x ≡ v ∷ drop 1 (taker_queue x)
TakeServes x o = (taker_queue x ≡ []) × (o ≡ left_outcome x)

abbrev pub ServesAt : Option End → Outcome → Type 0
ServesAt found o = IfSome found (λ x. TakeServes x o)

-- an agent that has no end
abbrev pub first_agent : Agent
first_agent = record { is_running = true; is_ordered = false; away = 0; clients = 0; workers = 0 }

-- a new end
abbrev pub new_end : AgentId → Kind → End
new_end a kind = record {
  kind = kind;
  place = With a;
  is_closed = false;
  is_enabled = false;
  newest = 0;
  taker = 0;
  looked = 0;
  lines = replicate (lines_of (Some kind)) first_line;
  queues = [] ∷ [];
}

-- an agent after a poster of it came to this phase: one more is away, or one less
abbrev pub counted : Phase → Agent → Agent
counted Out x = record x { away = x.away - 1 }
counted _ x = if nat_lt x.away 4294967295 then record x { away = x.away + 1 } else x

abbrev pub change_owner : (Agent → Agent) → Option AgentId → List Agent → List Agent
change_owner change None agents = agents
change_owner change (Some a) agents = change_at change a.0 agents

-- an agent with a queue more of this kind, or one less
abbrev pub one_more : Kind → Agent → Agent
one_more Client x = record x { clients = x.clients + 1 }
one_more Worker x = record x { workers = x.workers + 1 }
one_more _ x = x

abbrev pub one_less : Kind → Agent → Agent
one_less Client x = record x { clients = x.clients - 1 }
one_less Worker x = record x { workers = x.workers - 1 }
one_less _ x = x

-- the agents after an end of this kind went from this place
abbrev pub gone : Kind → Place → List Agent → List Agent
gone kind (With a) agents = change_at (one_less kind) a.0 agents
gone kind _ agents = agents

-- the agents after this end went from its place
abbrev pub went : Option End → List Agent → List Agent
went found agents = unwrap_or (option_map (λ x. gone x.kind x.place agents) found) agents

-- the first line that no agent holds
abbrev pub first_free : List Line → Option ℕ
first_free lines = option_and_then (λ l. if nat_lt l MAX_LINES then Some l else None) (position (λ y. not (is_some y.held_by)) lines)

-- an agent that an end of this kind came to; of a port with its own poster away that poster is the agent's now
abbrev pub adopting : Bool → Kind → Agent → Agent
adopting released kind x = if released then one_more kind x else counted Inside (one_more kind x)

-- the agents after this end came to one of them
abbrev pub adopted_agents : Bool → AgentId → Option End → List Agent → List Agent
adopted_agents released a found agents = unwrap_or (option_map (λ x. change_at (adopting released x.kind) a.0 agents) found) agents

-- the ends after an agent made a broadcast channel, or no change
abbrev pub member_made : AgentId → List End → Outcome → List End
member_made a old (outcome.End e) = old ++ new_end a (Member a) ∷ []
member_made a old _ = old

-- ==== The core after a step, where the step got this answer.

-- the core after an agent made its queue of a kind
abbrev pub queue_core : AgentId → Kind → CoreState → Outcome → CoreState
queue_core a kind c (outcome.End e) = record c { agents = change_at (one_more kind) a.0 c.agents; ends = c.ends ++ new_end a kind ∷ [] }
queue_core a kind c _ = c

-- The core after a poster passed the gate, or was turned back there: it is one of its agent's that are away.
abbrev pub entered_core : CoreState → Sender → Phase → CoreState
entered_core c s p = record c {
  agents = change_owner (counted p) (owner (seen c) s.end.0 s.line.0) c.agents;
  ends = change_line (in_phase p) s c.ends;
}

-- The core after an answered step. A Member and a Part change the roster by a relation of `KeptRoster`: they aren't in
-- this table.
abbrev pub core_after : CoreState → Outcome → Action → CoreState
core_after c (outcome.Agent a) (action.Agent origin) = record c {
  agents = c.agents ++ first_agent ∷ [];
  roster = record c.roster { members = record c.roster.members { origins = c.roster.members.origins ++ origin ∷ [] } };
}
core_after c (outcome.Ends e p) (action.Channel a) = record c { ends = c.ends ++ new_end a (Port p) ∷ new_end a (Port e) ∷ [] }
core_after c (outcome.End e) (action.Client a) = queue_core a Client c (outcome.End e)
core_after c (outcome.End e) (action.Worker a) = queue_core a Worker c (outcome.End e)
core_after c (outcome.Line l) (action.Line e a) = record c { ends = change_line (held_by (Some a)) (record { end = e; line = l }) c.ends }
core_after c outcome.Done (action.Back s) = record c { ends = change_line (held_by None) s c.ends }
core_after c outcome.In (action.Enter s) = entered_core c s Inside
core_after c outcome.Moved (action.Enter s) = entered_core c s Turned
core_after c outcome.Closed (action.Enter s) = entered_core c s Turned
core_after c (outcome.Accepted n) (action.Push s ports body) = record c { ends = accept_ends c.ends (named_envelope s n body ports) }
core_after c (outcome.Accepted n) (action.Notice s) = record c { ends = accept_ends c.ends (named_notice s n) }
core_after c outcome.Left (action.Leave s) = record c {
  agents = change_owner (counted Out) (owner (seen c) s.end.0 s.line.0) c.agents;
  ends = change_line (in_phase Out) s c.ends;
  roster = record c.roster { cast = cast_after s.end.0 c.roster.cast };
}
core_after c (outcome.Hopped k) (action.Hop s) = record c { ends = change_line (at_queue k) s c.ends }
core_after c outcome.Started (action.Start e) = record c { ends = change_at (λ x. record x { is_enabled = true }) e.0 c.ends }
core_after c (outcome.Got v) (action.Take e) = record c { ends = arrived_ends (holder (seen c) e.0) v.ports (change_at front_taken e.0 c.ends) }
core_after c outcome.Again (action.Take e) = record c { ends = change_at advanced_end e.0 c.ends }
core_after c (outcome.Clear (Some k)) (action.Look e) = record c { ends = change_at (λ x. record x { looked = x.looked + 1 }) e.0 c.ends }
core_after c (outcome.Adopted k) (action.Adopt e a) = record c {
  agents = adopted_agents (is_released (seen c).line ((seen c).end e.0).kind) a (slice_get c.ends e.0) c.agents;
  ends = change_at (adopted_end a) e.0 c.ends;
}
core_after c outcome.Done (action.Close e) = record c { agents = went (slice_get c.ends e.0) c.agents; ends = change_at closed_end e.0 c.ends }
core_after c (outcome.Discarded vs) (action.Sweep e) = record c { ends = moved_ends (ports_of vs) Swept (change_at (λ x. record x { queues = [] }) e.0 c.ends) }
core_after c outcome.Handed (action.Hand e b) = record c {
  agents = went (slice_get c.ends e.0) c.agents;
  ends = change_at (λ x. record x { place = Arrived b }) e.0 c.ends;
}
core_after c outcome.Ordered (action.Order a) = record c { agents = change_at (λ x. record x { is_ordered = true }) a.0 c.agents }
core_after c (outcome.Ending es) (action.See a) = record c { agents = change_at (λ x. record x { is_running = false }) a.0 c.agents }
core_after c (outcome.Destinations ends) (action.Cast e ports body) = record c { roster = record c.roster { cast = cast_to e body ends } }
core_after c _ _ = c

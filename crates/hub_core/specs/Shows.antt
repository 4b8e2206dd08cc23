-- What it means that the core shows a history: what it keeps of each agent, end and line are the facts of the history.
use Rattle.std.specs.Prelude.{if◌then◌else◌, ◌&&◌, ◌++◌, ◌+◌, ◌<◌, ◌∷◌, ◌≡◌, ◌≤◌}
use Rattle.hub_core.specs.Words.{Agent, AgentId, AllByRecursion, Bool, Client, End, EndId, Envelope, Group, Inside, Kind, Line, List, Member, None, Option, Outcome, Some, Step, Worker, [], false, length, nat_lt, slice_get, slice_index_or, ℕ, IfSome, option_map, unwrap_or}
use Rattle.hub_core.specs.declared.machine.Core.{Core}
use Rattle.hub_core.specs.declared.roster.Roster.{Roster}
use Rattle.hub_core.specs.KeptRoster.{SameRoster, group_of, numbers_of, numbers_with}
use Rattle.hub_core.specs.Notions.{History, AgentNow, EndNow, LineNow, Facts, facts, in_queue, count_in_queue, lines_of}
use Rattle.hub_core.specs.Legal.{Fits, Legal, is_away_of, is_queue_of}
use Rattle.hub_core.specs.Sound.{no_end, no_line, total}
use Rattle.hub_core.specs.Posting.{is_with}

-- an agent, an end and a line now, as the core keeps them, or as there is none
abbrev pub agent_now : Option Agent → AgentNow
agent_now None = record { runs = false; ordered = false }
agent_now (Some x) = record { runs = x.is_running; ordered = x.is_ordered }

abbrev pub end_now : Option End → EndNow
end_now None = no_end
end_now (Some x) = record {
  kind = Some x.kind;
  place = Some x.place;
  closed = x.is_closed;
  enabled = x.is_enabled;
  newest = x.newest;
  taker_stand = x.taker;
}

abbrev pub line_now : Option Line → LineNow
line_now None = no_line
line_now (Some y) = record { phase = y.phase; stand = y.epoch; noticed = y.has_noticed; held_by = y.held_by }

abbrev pub kept_lines : Option End → List Line
kept_lines None = []
kept_lines (Some x) = x.lines

-- what a line keeps of how many envelopes of it were accepted in the queue at which it stands
abbrev pub ShowsPut : List Envelope → ℕ → Option Line → Type 0
ShowsPut accepted l found = IfSome found (λ y. count_in_queue l y.epoch accepted ≡ y.put)

-- The queues of an open end from the taker's to the newest are kept: what is kept of a queue is what was accepted there and neither
-- taken nor discarded, in order of acceptance. Behind the taker everything was taken. A queue from the taker's on is
-- clear exactly where it is below the one to look at. Of a closed end the queues are kept in which somebody is inside.
pub record KeepsQueues (line : ℕ → LineNow) (clear : ℕ → Bool) (accepted removed : List Envelope) (x : End) : Type 0 where
  pub reached : x.taker ≤ x.looked
  pub clear_below : (k : ℕ) → x.taker ≤ k → clear k ≡ nat_lt k x.looked
  pub count : x.is_closed ≡ false → x.taker + length x.queues ≡ x.newest + 1
  pub inside : (l : ℕ) → (line l).phase ≡ Inside → (line l).stand < x.taker + length x.queues
  pub behind : (k : ℕ) → k < x.taker → in_queue k accepted ≡ in_queue k removed
  pub each : (i : ℕ) → in_queue (x.taker + i) accepted ≡ in_queue (x.taker + i) removed ++ slice_index_or x.queues i []

-- what is kept of an end, with its lines and queues; what was removed from the queues was taken or discarded
pub record ShowsEnd (now : EndNow) (line : ℕ → LineNow) (clear : ℕ → Bool) (accepted removed : List Envelope) (kept : Option End) : Type 0 where
  pub same : now ≡ end_now kept
  pub count : length (kept_lines kept) ≡ lines_of now.kind
  pub lines : (l : ℕ) → line l ≡ line_now (slice_get (kept_lines kept) l)
  pub put : (l : ℕ) → ShowsPut accepted l (slice_get (kept_lines kept) l)
  pub queues : IfSome kept (KeepsQueues line clear accepted removed)

-- how many queues of this kind, a client's or a worker's, the agent has
abbrev pub count_of : Kind → Option Agent → ℕ
count_of kind None = 0
count_of Client (Some x) = x.clients
count_of Worker (Some x) = x.workers
count_of _ (Some x) = 0

abbrev pub kept_away : Option Agent → ℕ
kept_away found = unwrap_or (option_map (λ x. x.away) found) 0

-- how many posters of the agent are inside or being turned back
abbrev pub count_away : AgentId → Facts → ℕ
count_away a f = total (λ x. total (λ l. if is_away_of f a x l then 1 else 0) (lines_of (f.end x).kind)) f.ends

-- how many ends the agent has whose kind passes the test
abbrev pub count_with : (Option Kind → Bool) → AgentId → Facts → ℕ
count_with test a f = total (λ x. if test (f.end x).kind && is_with a (f.end x).place then 1 else 0) f.ends

-- agents and ends are those of the facts; of each agent it is kept how many queues it has, and how many of its posters
-- are away
pub record ShowsFacts (kept_agents : List Agent) (kept_ends : List End) (f : Facts) : Type 0 where
  pub agents : f.agents ≡ length kept_agents
  pub agent : (a : ℕ) → f.agent a ≡ agent_now (slice_get kept_agents a)
  pub ends : f.ends ≡ length kept_ends
  pub end : (e : ℕ) → ShowsEnd (f.end e) (f.line e) (f.clear e) (f.accepted e) (f.taken e ++ f.discarded e) (slice_get kept_ends e)
  pub queues : (kind : Kind) (a : AgentId) → count_of kind (slice_get kept_agents a.0) ≡ count_with (is_queue_of kind) a f
  pub away : (a : AgentId) → kept_away (slice_get kept_agents a.0) ≡ count_away a f

-- a member of the roster is a broadcast channel, with an origin and a name
pub record IsMemberNow (f : Facts) (y : EndId) : Type 0 where
  pub maker : AgentId
  pub kind : (f.end y.0).kind ≡ Some (Member maker)
  pub group : Group
  pub is : f.roster.group y.0 ≡ Some group

-- What is kept of the roster is the roster of the facts: the origin of each agent, the origin and name of each broadcast
-- channel, of each origin and name the members, and the cast that isn't over.
pub record ShowsRoster (kept : Roster) (f : Facts) : Type 0 where
  pub agents : length kept.members.origins ≡ f.agents
  pub origins : (a : ℕ) → f.roster.origin a ≡ unwrap_or (slice_get kept.members.origins a) None
  pub groups : (x : ℕ) (a : AgentId) → (f.end x).kind ≡ Some (Member a) → f.roster.group x ≡ group_of kept.members x
  pub seated : (k : Group) → numbers_of kept.members k ≡ numbers_with f.roster k f.roster.members
  pub each : AllByRecursion (IsMemberNow f) f.roster.members
  pub cast : f.roster.cast ≡ kept.cast

-- the core's agents, ends and roster are those of the history, which is legal
abbrev pub Shows : Core → History → Type 0
Shows core h = ShowsFacts core.agents core.ends (facts h) × ShowsRoster core.roster (facts h) × Legal h

-- After every history that the old core shows the outcome of the step fits, and the new core shows the longer history.
abbrev pub FitsAndShows : Core → Core → Step → Outcome → Type 0
FitsAndShows old new step o = (h : History) → Shows old h → Fits h (step, o) × Shows new (h ++ (step, o) ∷ [])

-- the new core shows each history that the old core shows
abbrev pub StillShows : Core → Core → Type 0
StillShows old new = (h : History) → Shows old h → Shows new h

-- the core's agents, ends and roster are as before
abbrev pub SameContent : Core → Core → Type 0
SameContent old new = (new.agents ≡ old.agents) × (new.ends ≡ old.ends) × SameRoster (length old.ends) old.roster new.roster

-- Which ends an agent has: how its log says that it came by them and parted from them, and how many its loop holds.
use Rattle.std.specs.Prelude.{◌≡◌, ◌≤◌, ◌+◌, ◌==◌, ℕ, List, [], ◌∷◌, count_by, take, None}
use Rattle.std.specs.List.{sum_by}
use Rattle.slab.specs.Slab.{Slab}
use Rattle.hub_envelope.specs.declared.ids.EndId.{EndId}
use Rattle.hub_loop.specs.Ending.{is_held}
use Rattle.hub_loop.specs.declared.held.Held.{Held}
use Rattle.hub_loop.specs.declared.handler.Turn.{Turn}
use Rattle.hub_loop.specs.declared.handler.Turn.TheVariants.{Delivered, Idle, Ending}
use Rattle.hub_trace.specs.declared.log_entry.LogEntry.{LogEntry}
use Rattle.hub_trace.specs.declared.log_entry.LogEntry.TheVariants.{Put, Got, Adopted, Closed}
use Rattle.hub_agent.specs.Agents.{AgentState}
use Rattle.hub_agent.specs.Entries.{ports_listed}

-- how often the end of that number stands in the list
abbrev pub times : ℕ → List EndId → ℕ
times e ends = count_by (λ end. end.0 == e) ends

-- how often the entry says that the end was adopted
abbrev pub gained_by : ℕ → LogEntry → ℕ
gained_by e (Adopted end epoch) = times e (end ∷ [])
gained_by e (Put d) = 0
gained_by e (Got d) = 0
gained_by e (Closed end) = 0

-- how often the entry says that the end was closed, or sent along with a message
abbrev pub lost_by : ℕ → LogEntry → ℕ
lost_by e (Put d) = times e (ports_listed d.content)
lost_by e (Closed end) = times e (end ∷ [])
lost_by e (Got d) = 0
lost_by e (Adopted end epoch) = 0

abbrev pub gained : ℕ → List LogEntry → ℕ
gained e entries = sum_by (gained_by e) entries

abbrev pub lost : ℕ → List LogEntry → ℕ
lost e entries = sum_by (lost_by e) entries

-- Up to each entry, an agent that began with so many ends of each number has closed and sent an end no more often than it began with
-- it and has adopted it. So what it closes or sends was given to it or adopted before, and neither closed nor sent since.
abbrev pub UsesOwn : (ℕ → ℕ) → List LogEntry → Type 0
UsesOwn own entries = (n e : ℕ) → lost e (take n entries) ≤ own e + gained e (take n entries)

-- It uses its own, and what it has left is no more than it began with and gained, but for what it lost.
abbrev pub LeavesOwn : (ℕ → ℕ) → List LogEntry → (ℕ → ℕ) → Type 0
LeavesOwn own entries left = UsesOwn own entries × ((e : ℕ) → left e + lost e entries ≤ own e + gained e entries)

-- how many ends of this number the agent's loop holds
abbrev pub has : AgentState → ℕ → ℕ
has a e = count_by (is_held e) a.ends.slots

-- how many ends of this number are held
abbrev pub times_held : Slab Held → ℕ → ℕ
times_held held e = count_by (is_held e) held.slots

-- The loop holds no end that it didn't hold.
abbrev pub HoldsNoMore : AgentState → AgentState → Type 0
HoldsNoMore before now = (e : ℕ) → has now e ≤ has before e

-- No delivery is kept for want of memory, as none was. What the loop holds, and what the log says was lost, is no more than what it
-- held and what the log says was gained.
abbrev pub Accounts : AgentState → AgentState → Type 0
Accounts before now =
    before.kept ≡ None → (now.kept ≡ None)
    × ((e : ℕ) → has now e + lost e now.notes.log.1 + gained e before.notes.log.1 ≤ has before e + gained e now.notes.log.1 + lost e before.notes.log.1)

-- What a turn leaves of what the loop holds, before the adoptions are logged: a delivery brings no more than the ports that are to be
-- logged as adopted, and another turn nothing.
abbrev pub TurnBrings : Turn → AgentState → AgentState → Type 0
TurnBrings Delivered before now =
    before.kept ≡ None → (now.kept ≡ None) × ((e : ℕ) → has now e ≤ has before e + times e now.notes.adopted)
TurnBrings (Idle busy) before now = before.kept ≡ None → (now.kept ≡ None) × HoldsNoMore before now
TurnBrings Ending before now = before.kept ≡ None → (now.kept ≡ None) × HoldsNoMore before now

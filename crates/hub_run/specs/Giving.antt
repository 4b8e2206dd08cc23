-- What the agents of a run are given, one end after the other.
use Rattle.std.specs.Prelude.{◌≡◌, ◌<◌, ◌+◌, ℕ, List, All, get_or, length, None}
use Rattle.hub_agent.specs.Agents.{AgentState, KeepsButEnds}
use Rattle.hub_agent.specs.Given.{IsGiven, where_at}
use Rattle.hub_agent.specs.Owning.{has, times}
use Rattle.hub_envelope.specs.declared.ids.AgentId.{AgentId}
use Rattle.hub_envelope.specs.declared.ids.EndId.{EndId}
use Rattle.hub_script.specs.Contents.{Contents}

-- The agents are as they were, but that the loop of each holds these ends besides.
abbrev pub Gives : (ℕ → List EndId) → List AgentState → List AgentState → Type 0
Gives ends old new =
    (length new ≡ length old)
    × ((k : ℕ) (d : AgentState) → k < length old → KeepsButEnds (get_or old k d) (get_or new k d)
    × ((e : ℕ) → has (get_or new k d) e ≡ has (get_or old k d) e + times e (ends k)))

-- the agent of this number is given these ends
abbrev pub GivesEnds : AgentId → List EndId → List AgentState → List AgentState → Type 0
GivesEnds at ends old new = Gives (λ number. where_at number at ends) old new

-- The agent holds nothing and keeps no delivery.
abbrev pub HasNothing : AgentState → Type 0
HasNothing a = (a.kept ≡ None) × ((e : ℕ) → has a e ≡ 0)

abbrev pub HaveNothing : List AgentState → Type 0
HaveNothing all = All HasNothing all

-- so is each of these, by its place
abbrev pub AreGiven : Contents → List AgentState → Type 0
AreGiven script all = (k : ℕ) (d : AgentState) → k < length all → IsGiven script k (get_or all k d)

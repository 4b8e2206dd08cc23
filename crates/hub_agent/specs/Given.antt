-- Which ends an agent is given before the run, by its script.
use Rattle.std.specs.Prelude.{◌≡◌, ◌+◌, ◌==◌, ℕ, List, [], ◌∷◌, ◌++◌, if◌then◌else◌, length, None}
use Rattle.hub_envelope.specs.declared.ids.AgentId.{AgentId}
use Rattle.hub_envelope.specs.declared.ids.EndId.{EndId}
use Rattle.hub_script.specs.Contents.{Contents, declared_agents, channels, members}
use Rattle.hub_script.specs.Known.{port_count, queue_of}
use Rattle.hub_script.specs.declared.script.DeclaredChannel.{DeclaredChannel}
use Rattle.hub_script.specs.declared.script.DeclaredMember.{DeclaredMember}
use Rattle.hub_agent.specs.Agents.{AgentState}
use Rattle.hub_agent.specs.Owning.{has, times}

-- these ends, where they go to that agent
abbrev pub where_at : ℕ → AgentId → List EndId → List EndId
where_at number at ends = if at.0 == number then ends else []

-- Ends are numbered as the actions of a script name them: the queues of the agents, then the ports, then the members, each in the order
-- of the file. This is the port, and this the member, that has that place among all of them.
abbrev pub port_at : Contents → ℕ → EndId
port_at script place = record { 0 = length (declared_agents script) + place }

abbrev pub member_at : Contents → ℕ → EndId
member_at script place = record { 0 = length (declared_agents script) + port_count script + place }

-- the two ports of each of these channels that is declared at the agent of this number; the first port has this place
abbrev pub ports_from : Contents → ℕ → ℕ → List DeclaredChannel → List EndId
ports_from script number place [] = []
ports_from script number place (c ∷ rest) =
    where_at number c.at (port_at script place ∷ port_at script (place + 1) ∷ []) ++ ports_from script number (place + 2) rest

-- each of these members that is declared at the agent of this number; the first has this place
abbrev pub members_from : Contents → ℕ → ℕ → List DeclaredMember → List EndId
members_from script number place [] = []
members_from script number place (m ∷ rest) =
    where_at number m.at (member_at script place ∷ []) ++ members_from script number (place + 1) rest

-- each agent is given its queue
abbrev pub queue_given : ℕ → List EndId
queue_given number = queue_of (record { 0 = number }) ∷ []

-- the ports of all channels, and all members, of the agent of this number
abbrev pub ports_given : Contents → ℕ → List EndId
ports_given script number = ports_from script number 0 (channels script)

abbrev pub members_given : Contents → ℕ → List EndId
members_given script number = members_from script number 0 (members script)

-- the agent of this number is given its queue, the ports of its channels, and its members
abbrev pub given : Contents → ℕ → List EndId
given script number = queue_given number ++ ports_given script number ++ members_given script number

-- The agent holds the ends that it is given, each as often, and no others; it keeps no delivery.
pub record IsGiven (script : Contents) (number : ℕ) (a : AgentState) : Type 0 where
  pub kept : a.kept ≡ None
  pub ends : (e : ℕ) → has a e ≡ times e (given script number)

-- What the lines read so far say: the script so far, what each name names, which names each agent holds,
-- and which agents have handed their queue on.
use Rattle.std.specs.Prelude.{ℕ, ◌+◌, ◌*◌, ◌==◌, ◌&&◌, ◌||◌, not, List, [], ◌∷◌, length, Bool, false, Option, Some, None, bytes_eq, if◌then◌else◌}
use Rattle.hub_envelope.specs.declared.ids.AgentId.{AgentId}
use Rattle.hub_envelope.specs.declared.ids.EndId.{EndId}
use Rattle.hub_script.specs.declared.script_reader.NameHolder.{NameHolder}
use Rattle.hub_script.specs.declared.script_reader.NamedEnd.{NamedEnd}
use Rattle.hub_script.specs.declared.script_reader.NameKind.{NameKind}
use Rattle.hub_script.specs.declared.script_reader.NameKind.TheVariants.{Port, Member}
use Rattle.hub_script.specs.Contents.{Contents, declared_agents, channels, empty, members}

pub record Known : Type 0 where
  pub script : Contents
  pub names : List ℕ → Option NamedEnd
  pub holds : NameHolder → Bool
  pub handed : ℕ → Bool

abbrev pub with_script : Known → Contents → Known
with_script k s = record { script = s; names = k.names; holds = k.holds; handed = k.handed }

abbrev pub with_names : Known → (List ℕ → Option NamedEnd) → Known
with_names k names = record { script = k.script; names = names; holds = k.holds; handed = k.handed }

abbrev pub with_holds : Known → ((NameHolder → Bool) → NameHolder → Bool) → Known
with_holds k f = record { script = k.script; names = k.names; holds = f k.holds; handed = k.handed }

-- before the first text line
abbrev pub nothing : Known
nothing = record { script = empty; names = λ _. None; holds = λ _. false; handed = λ _. false }

-- how many ports, and how many names, are declared
abbrev pub port_count : Contents → ℕ
port_count s = 2 * length (channels s)

abbrev pub name_count : Contents → ℕ
name_count s = port_count s + length (members s)

-- the first port of the next channel, and the second
abbrev pub next_port : Contents → NamedEnd
next_port s = record { kind = Port; place = port_count s; number = name_count s }

abbrev pub second_port : Contents → NamedEnd
second_port s = record { kind = Port; place = port_count s + 1; number = name_count s + 1 }

abbrev pub next_broadcast_member : Contents → NamedEnd
next_broadcast_member s = record { kind = Member; place = length (members s); number = name_count s }

-- Ends are numbered: the queues of the agents, then the ports, then the members, each in the order of the
-- file. Declarations stand before all actions, so an action finds the numbers that stay.
abbrev pub end_number : Contents → NameKind → ℕ → ℕ
end_number s Port place = length (declared_agents s) + place
end_number s Member place = length (declared_agents s) + port_count s + place

abbrev pub declared_end : Contents → NamedEnd → EndId
declared_end s x = record { 0 = end_number s x.kind x.place }

-- the queue that the agent got when it was declared
abbrev pub queue_of : AgentId → EndId
queue_of a = record { 0 = a.0 }

abbrev pub holding : AgentId → NamedEnd → NameHolder
holding a x = record { agent = a.0; number = x.number }

abbrev pub is_same_holding : NameHolder → NameHolder → Bool
is_same_holding x y = (x.agent == y.agent) && (x.number == y.number)

-- what names name, with one name more
abbrev pub naming_more : List ℕ → NamedEnd → (List ℕ → Option NamedEnd) → List ℕ → Option NamedEnd
naming_more name x names n = if bytes_eq name n then Some x else names n

-- who holds what, where the agent holds one name more
abbrev pub taking_more : NameHolder → (NameHolder → Bool) → NameHolder → Bool
taking_more x holds y = is_same_holding x y || holds y

-- who holds what, where the agent doesn't hold that name any more
abbrev pub giving : NameHolder → (NameHolder → Bool) → NameHolder → Bool
giving x holds y = not (is_same_holding x y) && holds y

abbrev pub giving_all : AgentId → List NamedEnd → (NameHolder → Bool) → NameHolder → Bool
giving_all a [] holds = holds
giving_all a (x ∷ xs) holds = giving_all a xs (giving (holding a x) holds)

-- who has handed a queue on, where that agent has too
abbrev pub handing : ℕ → (ℕ → Bool) → ℕ → Bool
handing a handed b = (a == b) || handed b

abbrev pub with_handed : Known → ℕ → Known
with_handed k a = record { script = k.script; names = k.names; holds = k.holds; handed = handing a k.handed }

-- the name is declared at the agent, which holds it
abbrev pub declaring : Known → List ℕ → NamedEnd → AgentId → Known
declaring k name x a = with_holds (with_names k (naming_more name x k.names)) (taking_more (holding a x))

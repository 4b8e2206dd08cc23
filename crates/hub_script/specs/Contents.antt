-- What a script has: the agents, the channels, the members and the actions, each in the order of the file.
use Rattle.std.specs.Prelude.{ℕ, ◌+◌, ◌≤◌, List, [], ◌∷◌, ◌++◌, length}
use Rattle.hub_envelope.specs.declared.limits.TheConstants.{MAX_AGENTS, MAX_SCRIPT_LINES}
use Rattle.hub_script.specs.declared.action.Action.{Action}
use Rattle.hub_script.specs.declared.script.DeclaredAgent.{DeclaredAgent}
use Rattle.hub_script.specs.declared.script.DeclaredChannel.{DeclaredChannel}
use Rattle.hub_script.specs.declared.script.DeclaredMember.{DeclaredMember}

abbrev pub Contents : Type 0
Contents = List DeclaredAgent × List DeclaredChannel × List DeclaredMember × List Action

abbrev pub declared_agents : Contents → List DeclaredAgent
declared_agents s = s.0

abbrev pub channels : Contents → List DeclaredChannel
channels s = s.1

abbrev pub members : Contents → List DeclaredMember
members s = s.2

abbrev pub actions : Contents → List Action
actions s = s.3

-- nothing yet
abbrev pub empty : Contents
empty = ([], [], [], [])

abbrev pub with_declared : Contents → DeclaredAgent → Contents
with_declared s a = (s.0 ++ a ∷ [], s.1, s.2, s.3)

abbrev pub with_channel : Contents → DeclaredChannel → Contents
with_channel s c = (s.0, s.1 ++ c ∷ [], s.2, s.3)

abbrev pub with_member : Contents → DeclaredMember → Contents
with_member s m = (s.0, s.1, s.2 ++ m ∷ [], s.3)

abbrev pub with_action : Contents → Action → Contents
with_action s x = (s.0, s.1, s.2, s.3 ++ x ∷ [])

-- each text line of a script is one declaration or one action
abbrev pub line_count : Contents → ℕ
line_count s = length s.0 + length s.1 + length s.2 + length s.3

abbrev pub IsWithinLimits : Contents → Type 0
IsWithinLimits s = (line_count s ≤ MAX_SCRIPT_LINES) × (length (declared_agents s) ≤ MAX_AGENTS)

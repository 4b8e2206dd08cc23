-- What stands before a text line of a script, read off the forms of those before it, from the first on.
use Rattle.std.specs.Prelude.{◌≡◌, ◌⊎◌, ℕ, List, ◌∷◌, ◌++◌, Option, Some, None, ⊤}
use Rattle.std.specs.List.{All, Any, Contains, filter_map}
use Rattle.hub_script.specs.declared.script.AgentKind.{AgentKind}
use Rattle.hub_script.specs.declared.form.Form.{Form}
use Rattle.hub_script.specs.declared.form.Form.TheVariants as form
use Rattle.hub_script.specs.declared.form.ActionForm.TheVariants.{Post, Send, Close, Receive, Hand}

-- the kind of the agent that is declared
abbrev pub agent_kind : Form → Option AgentKind
agent_kind (form.Agent kind origin) = Some kind
agent_kind f = None

-- the kinds of the agents that are declared, by number
abbrev pub agent_kinds : List Form → List AgentKind
agent_kinds before = filter_map agent_kind before

abbrev pub IsAction : Form → Type 0
IsAction (form.Action at action) = ⊤
IsAction f = ⊥

abbrev pub DeclaresPort : Form → List ℕ → Type 0
DeclaresPort (form.Channel first second at) n = (first ≡ n) ⊎ (second ≡ n)
DeclaresPort f n = ⊥

abbrev pub DeclaresMember : Form → List ℕ → Type 0
DeclaresMember (form.Member name at on) n = name ≡ n
DeclaresMember f n = ⊥

-- the name is that of a port
abbrev pub IsPort : List Form → List ℕ → Type 0
IsPort before n = Any (λ f. DeclaresPort f n) before

-- the name is that of a member
abbrev pub IsMember : List Form → List ℕ → Type 0
IsMember before n = Any (λ f. DeclaresMember f n) before

abbrev pub IsDeclared : List Form → List ℕ → Type 0
IsDeclared before n = IsPort before n ⊎ IsMember before n

-- the agent hands its queue on
abbrev pub Hands : Form → ℕ → Type 0
Hands (form.Action at (Hand to)) a = at ≡ a
Hands f a = ⊥

abbrev pub HasHanded : List Form → ℕ → Type 0
HasHanded before a = Any (λ f. Hands f a) before

-- the agent transfers the port
abbrev pub Transfers : Form → ℕ → List ℕ → Type 0
Transfers (form.Action at (Post port body transfer)) a n = (at ≡ a) × Contains transfer n
Transfers (form.Action at (Send to body transfer)) a n = (at ≡ a) × Contains transfer n
Transfers f a n = ⊥

-- the agent closes the port or member
abbrev pub Closes : Form → ℕ → List ℕ → Type 0
Closes (form.Action at (Close name)) a n = (at ≡ a) × (name ≡ n)
Closes f a n = ⊥

-- the name is declared at the agent, or received by it
abbrev pub Gets : Form → ℕ → List ℕ → Type 0
Gets (form.Channel first second at) a n = (at ≡ a) × ((first ≡ n) ⊎ (second ≡ n))
Gets (form.Member name at on) a n = (at ≡ a) × (name ≡ n)
Gets (form.Action at (Receive port)) a n = (at ≡ a) × (port ≡ n)
Gets f a n = ⊥

-- the agent got the name by one of the forms, and neither transferred nor closed it by a later one
pub record HoldsAt (before : List Form) (a : ℕ) (n : List ℕ) : Type 0 where
  pub earlier : List Form
  pub gaining : Form
  pub later : List Form
  pub split : before ≡ earlier ++ gaining ∷ later
  pub gets : Gets gaining a n
  pub keeps : All (λ f. ¬ (Transfers f a n ⊎ Closes f a n)) later

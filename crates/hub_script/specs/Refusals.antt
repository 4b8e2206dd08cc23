-- What each refusal of a text line of a script means, by cases, in terms of that text line and of the forms of
-- those before it. Tests are made in the order in which the cases stand here, so a refusal says also which tests
-- were passed: first the text line by itself, then its place, agents and names, its list of ports, limits, and what
-- is left of its body or URL.
use Rattle.std.specs.Prelude.{◌≡◌, ◌⊎◌, ℕ, ◌+◌, ◌<◌, ◌≤◌, List, ◌∷◌, ◌++◌, length, Some, None, Result, Ok, Err, codes, slice_get, is_some, true}
use Rattle.std.specs.List.{All, AllZip, Any, Contains}
use Rattle.serde_json.specs.Data.{Data}
use Rattle.serde_json.specs.Find.{get}
use Rattle.hub_origin.specs.declared.origin.OriginError.{OriginError}
use Rattle.hub_envelope.specs.declared.limits.TheConstants.{MAX_AGENTS, MAX_PORTS, MAX_SCRIPT_LINES}
use Rattle.hub_envelope.specs.declared.body.BodyError.{BodyError}
use Rattle.hub_envelope.specs.declared.body.BodyError.TheVariants.{TooDeep, TooLong}
use Rattle.hub_text.specs.TextLines.{text_lines_of}
use Rattle.hub_script.specs.declared.script.AgentKind.TheVariants.{Window, Worker}
use Rattle.hub_script.specs.declared.form.Form.{Form}
use Rattle.hub_script.specs.declared.form.Form.TheVariants as form
use Rattle.hub_script.specs.declared.form.ActionForm.TheVariants.{Post, Start, Loaded, Event as LifeEvent, Hand, Fetch}
use Rattle.hub_script.specs.declared.keyword.Keyword.{Keyword}
use Rattle.hub_script.specs.declared.error.ScriptError.{ScriptError}
use Rattle.hub_script.specs.declared.error.ScriptError.TheVariants.{Syntax, UnknownAction, UnknownName, DataClone, TooLarge, OutOfMemory}
use Rattle.hub_script.specs.declared.error.DataCloneCause.{DataCloneCause}
use Rattle.hub_script.specs.declared.error.DataCloneCause.TheVariants.{Source, Twice, Detached}
use Rattle.hub_script.specs.Before.{Hands, HasHanded, HoldsAt, IsAction, IsDeclared, IsMember, IsPort, Transfers, agent_kind, agent_kinds}
use Rattle.hub_script.specs.Contents.{Contents}
use Rattle.hub_script.specs.Shapes.{form_word}
use Rattle.hub_script.specs.Shown.{HasForm, TextHasForm, IsObject}
use Rattle.hub_script.specs.Uses.{agents_named, body_of, members_named, names_declared, names_used, ports_named, transfer_of, form_url}

-- ---- the text line by itself

-- the text line isn't the text of a JSON object
pub record IsNoObject (bytes : List ℕ) : Type 0 where
  pub none : (d : Data) → ¬ IsObject bytes d

-- an object that has no keyword of a form among its fields
pub record HasNoKeyword (bytes : List ℕ) : Type 0 where
  pub value : Data
  pub is_object : IsObject bytes value
  pub none : (k : Keyword) → get (form_word k) value ≡ None

-- an object that has such a field, and has none of the forms: other fields than shown, or another type, number or
-- word in one
pub record HasNoForm (bytes : List ℕ) : Type 0 where
  pub value : Data
  pub is_object : IsObject bytes value
  pub keyword : Keyword
  pub told : is_some (get (form_word keyword) value) ≡ true
  pub none : (f : Form) → ¬ HasForm value f

-- ---- its place in the script

-- the agent starts its own queue
abbrev pub StartsQueue : Form → ℕ → Type 0
StartsQueue (form.Action at (Start name)) a = (at ≡ a) × (name ≡ codes "queue")
StartsQueue (form.Action at Loaded) a = at ≡ a
StartsQueue f a = ⊥

-- it is an event of the agent's life
abbrev pub HasEvent : Form → ℕ → Type 0
HasEvent (form.Action at (LifeEvent event)) a = at ≡ a
HasEvent f a = ⊥

-- an agent hands its queue to itself, or fetches its own
abbrev pub IsOwnQueue : Form → Type 0
IsOwnQueue (form.Action at (Hand to)) = at ≡ to
IsOwnQueue (form.Action at (Fetch from)) = at ≡ from
IsOwnQueue f = ⊥

-- a name stands twice in the list
pub record StandsTwice (names : List (List ℕ)) : Type 0 where
  pub name : List ℕ
  pub earlier : List (List ℕ)
  pub later : List (List ℕ)
  pub first : names ≡ earlier ++ name ∷ later
  pub second : Contains later name

-- what doesn't fit the text lines before it
pub data IsMisplaced (before : List Form) (f : Form) : Type 0 where
  -- a declaration behind an action
  declared_late : ¬ IsAction f → Any IsAction before → IsMisplaced before f
  -- a name that is reserved, or is declared again
  reserved : Contains (names_declared f) (codes "queue") → IsMisplaced before f
  declared_before : (n : List ℕ) → Contains (names_declared f) n → IsDeclared before n → IsMisplaced before f
  declared_twice : StandsTwice (names_declared f) → IsMisplaced before f
  -- the start of a worker's queue, or of one that was handed on
  queue_of_worker : (a : ℕ) → StartsQueue f a → slice_get (agent_kinds before) a ≡ Some Worker → IsMisplaced before f
  queue_handed : (a : ℕ) → StartsQueue f a → HasHanded before a → IsMisplaced before f
  event_of_window : (a : ℕ) → HasEvent f a → slice_get (agent_kinds before) a ≡ Some Window → IsMisplaced before f
  own_queue : IsOwnQueue f → IsMisplaced before f
  -- a second hand
  handed_again : (a : ℕ) → Hands f a → HasHanded before a → IsMisplaced before f

-- ---- agents and names

-- an agent or a name that isn't declared before, is of another kind, or isn't held
pub data HasUnknown (before : List Form) (f : Form) : Type 0 where
  no_agent : (a : ℕ) → Contains (agents_named f) a → length (agent_kinds before) ≤ a → HasUnknown before f
  no_port : (n : List ℕ) → Contains (ports_named f) n → ¬ IsPort before n → HasUnknown before f
  no_member : (n : List ℕ) → Contains (members_named f) n → ¬ IsMember before n → HasUnknown before f
  not_held : (used : ℕ × List ℕ) → Contains (names_used f) used → ¬ HoldsAt before used.0 used.1 → HasUnknown before f

-- each agent and each name is declared before, is of the kind that is meant, and is held
pub record AreKnown (before : List Form) (f : Form) : Type 0 where
  pub agents : All (λ a. a < length (agent_kinds before)) (agents_named f)
  pub ports : All (IsPort before) (ports_named f)
  pub members : All (IsMember before) (members_named f)
  pub held : All (λ used. HoldsAt before used.0 used.1) (names_used f)

-- ---- the list of ports

-- the port that posts is in its own list
abbrev pub ListsSource : Form → Type 0
ListsSource (form.Action at (Post port body transfer)) = Contains transfer port
ListsSource f = ⊥

-- the agent transfers a port that it doesn't hold
pub record HasDetached (before : List Form) (f : Form) : Type 0 where
  pub agent : ℕ
  pub port : List ℕ
  pub transfers : Transfers f agent port
  pub detached : ¬ HoldsAt before agent port

-- why the list can't be transferred
abbrev pub CannotTransfer : List Form → Form → DataCloneCause → Type 0
CannotTransfer before f Source = ListsSource f
CannotTransfer before f Twice = (¬ ListsSource f) × StandsTwice (transfer_of f)
CannotTransfer before f Detached = (¬ ListsSource f) × (¬ StandsTwice (transfer_of f)) × HasDetached before f

-- different ports that the agent holds, and the port that posts isn't one of them
pub record CanTransfer (before : List Form) (f : Form) : Type 0 where
  pub apart : ¬ ListsSource f
  pub different : ¬ StandsTwice (transfer_of f)
  pub held : (a : ℕ) (n : List ℕ) → Transfers f a n → HoldsAt before a n

-- ---- limits, bodies and URLs

-- a limit that is passed
pub data IsTooLarge (before : List Form) (f : Form) : Type 0 where
  -- the text line is past the 4,096th, or its agent past the 16th
  text_lines : MAX_SCRIPT_LINES ≤ length before → IsTooLarge before f
  agents : is_some (agent_kind f) ≡ true → MAX_AGENTS ≤ length (agent_kinds before) → IsTooLarge before f
  -- more than 16 ports, or a body that is nested too deep or too long
  ports : MAX_PORTS < length (transfer_of f) → IsTooLarge before f
  depth : body_of f ≡ Some (Err TooDeep) → IsTooLarge before f
  size : body_of f ≡ Some (Err TooLong) → IsTooLarge before f

-- a body or a URL that is refused
pub data IsRefusedValue (f : Form) : Type 0 where
  body : (e : BodyError) → body_of f ≡ Some (Err e) → IsRefusedValue f
  url : (e : OriginError) → form_url f ≡ Some (Err e) → IsRefusedValue f

-- ---- what a refusal means

-- Syntax: a text line of one of the forms that doesn't fit those before it
pub record DoesNotFit (before : List Form) (bytes : List ℕ) : Type 0 where
  pub form : Form
  pub text : TextHasForm bytes form
  pub misplaced : IsMisplaced before form

-- UnknownName: it fits, and names what isn't known
pub record NamesUnknown (before : List Form) (bytes : List ℕ) : Type 0 where
  pub form : Form
  pub text : TextHasForm bytes form
  pub placed : ¬ IsMisplaced before form
  pub unknown : HasUnknown before form

-- DataClone: all that it names is known, and its list of ports can't be transferred
pub record HasBadList (before : List Form) (bytes : List ℕ) (cause : DataCloneCause) : Type 0 where
  pub form : Form
  pub text : TextHasForm bytes form
  pub placed : ¬ IsMisplaced before form
  pub known : AreKnown before form
  pub list : CannotTransfer before form cause

-- TooLarge: its list can be transferred, and it passes a limit
pub record PassesLimit (before : List Form) (bytes : List ℕ) : Type 0 where
  pub form : Form
  pub text : TextHasForm bytes form
  pub placed : ¬ IsMisplaced before form
  pub known : AreKnown before form
  pub list : CanTransfer before form
  pub limit : IsTooLarge before form

-- Syntax: it passes every other test, and its body or its URL is none
pub record HasBadValue (before : List Form) (bytes : List ℕ) : Type 0 where
  pub form : Form
  pub text : TextHasForm bytes form
  pub placed : ¬ IsMisplaced before form
  pub known : AreKnown before form
  pub list : CanTransfer before form
  pub within : ¬ IsTooLarge before form
  pub value : IsRefusedValue form

-- a form that passes every test behind the forms before it
pub record IsAccepted (before : List Form) (f : Form) : Type 0 where
  pub placed : ¬ IsMisplaced before f
  pub known : AreKnown before f
  pub list : CanTransfer before f
  pub within : ¬ IsTooLarge before f
  pub value : ¬ IsRefusedValue f

-- what Syntax means
pub data IsSyntaxError (before : List Form) (bytes : List ℕ) : Type 0 where
  no_object : IsNoObject bytes → IsSyntaxError before bytes
  no_form : HasNoForm bytes → IsSyntaxError before bytes
  not_fitting : DoesNotFit before bytes → IsSyntaxError before bytes
  bad_value : HasBadValue before bytes → IsSyntaxError before bytes

-- what a refusal says of the text line, behind text lines of those forms; running out of memory says nothing of a text
abbrev pub Means : List Form → List ℕ → ScriptError → Type 0
Means before bytes Syntax = IsSyntaxError before bytes
Means before bytes UnknownAction = HasNoKeyword bytes
Means before bytes UnknownName = NamesUnknown before bytes
Means before bytes (DataClone cause) = HasBadList before bytes cause
Means before bytes TooLarge = PassesLimit before bytes
Means before bytes OutOfMemory = ⊥

-- each text line is of a form, and is accepted behind those before it
pub record AreAccepted (lines : List (List ℕ)) : Type 0 where
  pub forms : List Form
  pub shown : AllZip TextHasForm lines forms
  pub accepted : (earlier later : List Form) (f : Form) → forms ≡ earlier ++ f ∷ later → IsAccepted earlier f

-- the text line of that number is refused so, and those before it are accepted
pub record IsTextRefused (text : List ℕ) (n : ℕ) (e : ScriptError) : Type 0 where
  pub before : List (List ℕ)
  pub refused : List ℕ
  pub behind : List (List ℕ)
  pub lines : text_lines_of text ≡ before ++ refused ∷ behind
  pub number : n ≡ length before + 1
  pub accepted : AreAccepted before
  pub means : Means accepted.forms refused e

-- what an answer says of the text; running out of memory says nothing
abbrev pub IsExplained : List ℕ → Result Contents (ℕ × ScriptError) → Type 0
IsExplained text (Ok script) = AreAccepted (text_lines_of text)
IsExplained text (Err e) = (e.1 ≡ OutOfMemory) ⊎ IsTextRefused text e.0 e.1

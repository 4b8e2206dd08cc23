-- Laws of every script line that was read, and of what refusals mean.
use Rattle.std.specs.Prelude.{◌≡◌, ℕ, ◌≤◌, List, length, Bool, true, false, Option, Some, None, Result, Ok, codes, bytes_eq}
use Rattle.std.specs.List.{list_all}
use Rattle.hub_envelope.specs.declared.body.BodyError.{BodyError}
use Rattle.hub_envelope.specs.declared.ids.AgentId.{AgentId}
use Rattle.hub_envelope.specs.declared.limits.TheConstants.{MAX_PORTS}
use Rattle.hub_script.specs.declared.form.Form.{Form}
use Rattle.hub_script.specs.declared.form.Form.TheVariants as form
use Rattle.hub_script.specs.declared.form.ActionForm.TheVariants.{Post, Send, Start, Close}
use Rattle.hub_script.specs.declared.script_reader.NamedEnd.{NamedEnd}
use Rattle.hub_script.specs.declared.script_reader.NameKind.TheVariants.{Port}
use Rattle.hub_script.specs.declared.error.ScriptError.{ScriptError}
use Rattle.hub_text.specs.TextLines.{text_lines_of}
use Rattle.hub_script.specs.Context.{after_form, has_twice, holds_named, is_port, stands_in}
use Rattle.hub_script.specs.Known.{Known, holding}
use Rattle.hub_script.specs.Refusals.{AreAccepted, IsAccepted, IsTextRefused, Means}
use Rattle.hub_script.specs.Shown.{TextHasForm}

-- the agent holds the port or member of that name
pub record HoldsName (k : Known) (a : AgentId) (n : List ℕ) : Type 0 where
  pub end : NamedEnd
  pub named : k.names n ≡ Some end
  pub held : k.holds (holding a end) ≡ true

-- the agent holds the port of that name
pub record HoldsPort (k : Known) (a : AgentId) (n : List ℕ) : Type 0 where
  pub port : NamedEnd
  pub named : k.names n ≡ Some port
  pub kind : port.kind ≡ Port
  pub held : k.holds (holding a port) ≡ true

-- the name stands in the list, where there is one
abbrev pub is_listed : Option (List ℕ) → List (List ℕ) → Bool
is_listed None names = false
is_listed (Some n) names = stands_in n names

-- at most 16 different names of ports that the agent holds, and the source port isn't among them
pub record MayTransfer (k : Known) (a : AgentId) (source : Option (List ℕ)) (names : List (List ℕ)) : Type 0 where
  pub ports : list_all (is_port k) names ≡ true
  pub apart : is_listed source names ≡ false
  pub different : has_twice names ≡ false
  pub held : list_all (holds_named k a.0) names ≡ true
  pub few : length names ≤ MAX_PORTS

-- a post that is read names a port that its agent holds, and what it transfers may be transferred
abbrev pub PostsHeld : Type 0
PostsHeld = (k next : Known) (at : ℕ) (n : List ℕ) (answer : Result (List ℕ) BodyError) (names : List (List ℕ)) → after_form k (form.Action at (Post n answer names)) ≡ Ok next
    → (a : AgentId) × (a.0 ≡ at) × HoldsPort k a n × MayTransfer k a (Some n) names

-- what a send transfers may be transferred
abbrev pub SendsHeld : Type 0
SendsHeld = (k next : Known) (at to : ℕ) (answer : Result (List ℕ) BodyError) (names : List (List ℕ)) → after_form k (form.Action at (Send to answer names)) ≡ Ok next
    → (a : AgentId) × (a.0 ≡ at) × MayTransfer k a None names

-- a start that is read names a port that its agent holds, or its queue
abbrev pub StartsHeld : Type 0
StartsHeld = (k next : Known) (at : ℕ) (n : List ℕ) → after_form k (form.Action at (Start n)) ≡ Ok next → bytes_eq n (codes "queue") ≡ false
    → (a : AgentId) × (a.0 ≡ at) × HoldsPort k a n

-- a close that is read names what its agent holds
abbrev pub ClosesHeld : Type 0
ClosesHeld = (k next : Known) (at : ℕ) (n : List ℕ) → after_form k (form.Action at (Close n)) ≡ Ok next → (a : AgentId) × (a.0 ≡ at) × HoldsName k a n

-- behind the same lines a text line is refused in one way at most
abbrev pub OneRefusal : Type 0
OneRefusal = (before : List Form) (bytes : List ℕ) (e g : ScriptError) → Means before bytes e → Means before bytes g → e ≡ g

-- a text line that is accepted is refused in no way
abbrev pub NoneAccepted : Type 0
NoneAccepted = (before : List Form) (bytes : List ℕ) (f : Form) (e : ScriptError) → TextHasForm bytes f → IsAccepted before f → ¬ Means before bytes e

-- a text is refused in one way at most: one text line of it, with one kind
abbrev pub OneFault : Type 0
OneFault = (text : List ℕ) (n m : ℕ) (e g : ScriptError) → IsTextRefused text n e → IsTextRefused text m g → (n ≡ m) × (e ≡ g)

-- a text that is refused isn't one of accepted text lines
abbrev pub NoScript : Type 0
NoScript = (text : List ℕ) (n : ℕ) (e : ScriptError) → IsTextRefused text n e → ¬ AreAccepted (text_lines_of text)

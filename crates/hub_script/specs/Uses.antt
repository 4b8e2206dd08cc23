-- What a form declares, names and transfers.
use Rattle.std.specs.Prelude.{ℕ, List, [], ◌∷◌, Option, Some, None, Result, codes, bytes_eq, if◌then◌else◌}
use Rattle.hub_origin.specs.declared.origin.OriginError.{OriginError}
use Rattle.hub_envelope.specs.declared.body.BodyError.{BodyError}
use Rattle.hub_script.specs.declared.form.Form.{Form}
use Rattle.hub_script.specs.declared.form.Form.TheVariants as form
use Rattle.hub_script.specs.declared.form.ActionForm.{ActionForm}
use Rattle.hub_script.specs.declared.form.ActionForm.TheVariants.{Post, Send, Cast, Start, Close, Receive, Order, Hand, Fetch}

-- the names that are declared
abbrev pub names_declared : Form → List (List ℕ)
names_declared (form.Channel first second at) = first ∷ second ∷ []
names_declared (form.Member name at on) = name ∷ []
names_declared f = []

-- the agents that are named besides the one that acts
abbrev pub others_named : ActionForm → List ℕ
others_named (Send to body transfer) = to ∷ []
others_named (Order to) = to ∷ []
others_named (Hand to) = to ∷ []
others_named (Fetch from) = from ∷ []
others_named action = []

-- the agents that are named
abbrev pub agents_named : Form → List ℕ
agents_named (form.Agent kind origin) = []
agents_named (form.Channel first second at) = at ∷ []
agents_named (form.Member name at on) = at ∷ []
agents_named (form.Action at action) = at ∷ others_named action

-- the ports that an action transfers
abbrev pub transferred : ActionForm → List (List ℕ)
transferred (Post port body transfer) = transfer
transferred (Send to body transfer) = transfer
transferred action = []

-- the ports that are transferred
abbrev pub transfer_of : Form → List (List ℕ)
transfer_of (form.Action at action) = transferred action
transfer_of f = []

-- the names that are to be those of ports
abbrev pub ports_named : Form → List (List ℕ)
ports_named (form.Action at (Post port body transfer)) = port ∷ transfer
ports_named (form.Action at (Send to body transfer)) = transfer
ports_named (form.Action at (Start name)) = if bytes_eq name (codes "queue") then [] else name ∷ []
ports_named (form.Action at (Receive port)) = port ∷ []
ports_named f = []

-- the names that are to be those of members
abbrev pub members_named : Form → List (List ℕ)
members_named (form.Action at (Cast member body)) = member ∷ []
members_named f = []

-- the names that are used, each with the agent that has to hold it
abbrev pub names_used : Form → List (ℕ × List ℕ)
names_used (form.Action at (Post port body transfer)) = (at, port) ∷ []
names_used (form.Action at (Cast member body)) = (at, member) ∷ []
names_used (form.Action at (Start name)) = if bytes_eq name (codes "queue") then [] else (at, name) ∷ []
names_used (form.Action at (Close name)) = (at, name) ∷ []
names_used f = []

-- the answer to the body, where the form has one
abbrev pub body_of : Form → Option (Result (List ℕ) BodyError)
body_of (form.Action at (Post port body transfer)) = Some body
body_of (form.Action at (Send to body transfer)) = Some body
body_of (form.Action at (Cast member body)) = Some body
body_of f = None

-- the answer to the URL, where the form has one
abbrev pub form_url : Form → Option (Result (List ℕ) OriginError)
form_url (form.Agent kind origin) = Some origin
form_url f = None

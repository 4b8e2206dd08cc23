-- The forms of script lines: the fields that each has, and what stands in them. Agents stand in them by number, ports
-- and members by name.
use Rattle.std.specs.Prelude.{ℕ, List, [], ◌∷◌, Bool, Option, is_some, Result, ⊤, codes, bytes_eq, find}
use Rattle.std.specs.List.{list_any}
use Rattle.hub_envelope.specs.declared.body.BodyError.{BodyError}
use Rattle.hub_life.specs.declared.life.Event.{Event as LifeEvent}
use Rattle.hub_origin.specs.declared.origin.OriginError.{OriginError}
use Rattle.serde_json.specs.Data.{Data}
use Rattle.serde_json.specs.Find.{get}
use Rattle.hub_script.specs.declared.script.AgentKind.{AgentKind}
use Rattle.hub_script.specs.declared.form.Form.{Form}
use Rattle.hub_script.specs.declared.form.Form.TheVariants as form
use Rattle.hub_script.specs.declared.form.ActionForm.TheVariants as action
use Rattle.hub_script.specs.declared.keyword.TheConstants.{KEYWORDS}
use Rattle.hub_script.specs.declared.keyword.Keyword.{Keyword}
use Rattle.hub_script.specs.declared.keyword.Keyword.TheVariants.{Agent, Channel, Member, Post, Send, Cast, Start, Loaded, Close, Wait, Receive, Order, Event, Hand, Fetch}

-- what a field may have: a text; a whole number from 0 to 4294967295; a kind of agent; a URL; two texts; any value, as
-- a body; texts, or no field at all; the word `queue`; the word of an event
pub data FieldType : Type 0 where
  TEXT : FieldType
  NUMBER : FieldType
  KIND : FieldType
  URL : FieldType
  PAIR : FieldType
  BODY : FieldType
  LIST : FieldType
  QUEUE_WORD : FieldType
  EVENT : FieldType

-- what is read of such a field; of a URL and of a body it is the answer to it
abbrev pub FieldValue : FieldType → Type 0
FieldValue TEXT = List ℕ
FieldValue NUMBER = ℕ
FieldValue KIND = AgentKind
FieldValue URL = Result (List ℕ) OriginError
FieldValue PAIR = List ℕ × List ℕ
FieldValue BODY = Result (List ℕ) BodyError
FieldValue LIST = List (List ℕ)
FieldValue QUEUE_WORD = ⊤
FieldValue EVENT = LifeEvent

-- the fields of a form, by name and by what they may have
abbrev pub Fields : Type 0
Fields = List (List ℕ × FieldType)

-- what makes a form of what is read of its fields
abbrev pub FormOf : Fields → Type 0
FormOf [] = Form
FormOf (field ∷ fields) = FieldValue field.1 → FormOf fields

-- a form's fields, and what is made of them
pub data Shape : Type 0 where
  shape : (fields : Fields) → FormOf fields → Shape

-- the form that the keyword stands for, which is its first field
abbrev pub shape_of : Keyword → Shape
shape_of Agent = shape ((codes "agent", KIND) ∷ (codes "origin", URL) ∷ []) (λ kind origin. form.Agent kind origin)
shape_of Channel = shape ((codes "channel", PAIR) ∷ (codes "at", NUMBER) ∷ []) (λ names at. form.Channel names.0 names.1 at)
shape_of Member = shape ((codes "member", TEXT) ∷ (codes "at", NUMBER) ∷ (codes "on", TEXT) ∷ []) (λ name at on. form.Member name at on)
shape_of Post = shape ((codes "post", TEXT) ∷ (codes "body", BODY) ∷ (codes "transfer", LIST) ∷ (codes "at", NUMBER) ∷ []) (λ port body transfer at. form.Action at (action.Post port body transfer))
shape_of Send = shape ((codes "send", NUMBER) ∷ (codes "body", BODY) ∷ (codes "transfer", LIST) ∷ (codes "at", NUMBER) ∷ []) (λ to body transfer at. form.Action at (action.Send to body transfer))
shape_of Cast = shape ((codes "cast", TEXT) ∷ (codes "body", BODY) ∷ (codes "at", NUMBER) ∷ []) (λ member body at. form.Action at (action.Cast member body))
shape_of Start = shape ((codes "start", TEXT) ∷ (codes "at", NUMBER) ∷ []) (λ name at. form.Action at (action.Start name))
shape_of Loaded = shape ((codes "loaded", QUEUE_WORD) ∷ (codes "at", NUMBER) ∷ []) (λ queue at. form.Action at action.Loaded)
shape_of Close = shape ((codes "close", TEXT) ∷ (codes "at", NUMBER) ∷ []) (λ name at. form.Action at (action.Close name))
shape_of Wait = shape ((codes "wait", NUMBER) ∷ (codes "at", NUMBER) ∷ []) (λ messages at. form.Action at (action.Wait messages))
shape_of Receive = shape ((codes "receive", TEXT) ∷ (codes "at", NUMBER) ∷ []) (λ port at. form.Action at (action.Receive port))
shape_of Order = shape ((codes "order", NUMBER) ∷ (codes "at", NUMBER) ∷ []) (λ to at. form.Action at (action.Order to))
shape_of Event = shape ((codes "event", EVENT) ∷ (codes "at", NUMBER) ∷ []) (λ event at. form.Action at (action.Event event))
shape_of Hand = shape ((codes "hand", NUMBER) ∷ (codes "at", NUMBER) ∷ []) (λ to at. form.Action at (action.Hand to))
shape_of Fetch = shape ((codes "fetch", NUMBER) ∷ (codes "at", NUMBER) ∷ []) (λ from at. form.Action at (action.Fetch from))

abbrev pub fields_of : Shape → Fields
fields_of (shape fields made) = fields

abbrev pub first_name : Fields → List ℕ
first_name [] = []
first_name (field ∷ fields) = field.0

-- the keyword of the form
abbrev pub form_word : Keyword → List ℕ
form_word k = first_name (fields_of (shape_of k))

-- the first keyword that the object has as a field
abbrev pub keyword_of : Data → Option Keyword
keyword_of d = find (λ k. is_some (get (form_word k) d)) KEYWORDS

-- one of the form's fields has that name
abbrev pub has_name : Keyword → List ℕ → Bool
has_name k name = list_any (λ field. bytes_eq name field.0) (fields_of (shape_of k))

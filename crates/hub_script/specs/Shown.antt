-- The forms of the text lines of a script as they are shown: which fields a form has, and what stands in each.
use Rattle.std.specs.Prelude.{◌≡◌, ◌⊎◌, ◌<◌, ◌^◌, ℕ, List, [], ◌∷◌, Some, None, is_some, true, codes}
use Rattle.std.specs.Str.{is_utf8}
use Rattle.serde_json.specs.Data.{Data, string, number, array, object, unsigned, Items, no_items, item, Members}
use Rattle.serde_json.specs.Find.{get}
use Rattle.serde_json.specs.Read.{read}
use Rattle.hub_origin.specs.Origin.{origin_answer}
use Rattle.hub_envelope.specs.Answer.{answer_to}
use Rattle.hub_life.specs.Word.{event_of}
use Rattle.hub_script.specs.declared.script.AgentKind.{AgentKind}
use Rattle.hub_script.specs.declared.script.AgentKind.TheVariants.{Window, Worker}
use Rattle.hub_script.specs.declared.form.Form.{Form}
use Rattle.hub_script.specs.declared.keyword.Keyword.{Keyword}
use Rattle.hub_script.specs.Shapes.{BODY, EVENT, FieldType, FieldValue, Fields, FormOf, KIND, LIST, NUMBER, PAIR, QUEUE_WORD, Shape, TEXT, URL, has_name, shape, shape_of}

-- the bytes are the text of this JSON object; of equal fields the last stands
pub record IsObject (bytes : List ℕ) (d : Data) : Type 0 where
  pub utf8 : is_utf8 bytes ≡ true
  pub value : read bytes ≡ Some d
  pub members : Members
  pub is_object : d ≡ object members

-- an array of these strings
abbrev pub strings : List (List ℕ) → Items
strings [] = no_items
strings (text ∷ texts) = item (string text) (strings texts)

abbrev pub kind_word : AgentKind → List ℕ
kind_word Window = codes "window"
kind_word Worker = codes "worker"

-- the JSON value shows this, as what a field may have
abbrev pub ShowsField : (t : FieldType) → FieldValue t → Data → Type 0
ShowsField TEXT text d = d ≡ string text
ShowsField NUMBER n d = (d ≡ number (unsigned n)) × (n < 2 ^ 32)
ShowsField KIND kind d = d ≡ string (kind_word kind)
ShowsField URL answer d = (url : List ℕ) × (d ≡ string url) × (answer ≡ origin_answer url)
ShowsField PAIR texts d = d ≡ array (strings (texts.0 ∷ texts.1 ∷ []))
ShowsField BODY answer d = answer ≡ answer_to (Some d)
ShowsField LIST texts d = d ≡ array (strings texts)
ShowsField QUEUE_WORD queue d = d ≡ string (codes "queue")
ShowsField EVENT event d = (word : List ℕ) × (d ≡ string word) × (event_of word ≡ Some event)

-- only a list may be missing, and then it is that of no texts
abbrev pub MayMiss : (t : FieldType) → FieldValue t → Type 0
MayMiss LIST texts = texts ≡ []
MayMiss t value = ⊥

-- the field shows this
abbrev pub IsField : (t : FieldType) → List ℕ → Data → FieldValue t → Type 0
IsField t name d value = ((shown : Data) × (get name d ≡ Some shown) × ShowsField t value shown) ⊎ ((get name d ≡ None) × MayMiss t value)

-- the form is made of what the fields show
abbrev pub HasFields : (fields : Fields) → FormOf fields → Data → Form → Type 0
HasFields [] made d f = made ≡ f
HasFields (field ∷ fields) made d f = (value : FieldValue field.1) × IsField field.1 field.0 d value × HasFields fields (made value) d f

abbrev pub HasShape : Shape → Data → Form → Type 0
HasShape (shape fields made) d f = HasFields fields made d f

-- each field of the object is one of the keyword's form
abbrev pub HasOnly : Data → Keyword → Type 0
HasOnly d k = (name : List ℕ) → is_some (get name d) ≡ true → has_name k name ≡ true

-- the object has that form
pub record HasForm (d : Data) (f : Form) : Type 0 where
  pub keyword : Keyword
  pub only : HasOnly d keyword
  pub fields : HasShape (shape_of keyword) d f

-- the text line is an object of that form
pub record TextHasForm (bytes : List ℕ) (f : Form) : Type 0 where
  pub value : Data
  pub is_object : IsObject bytes value
  pub form : HasForm value f

-- The fields of a script line, which is a JSON object (RFC 8259).
use Rattle.std.specs.Prelude.{ℕ, ◌^◌, List, [], ◌∷◌, ◌++◌, Option, Some, None, ⊤, codes, bytes_eq, option_and_then, nat_lt, if◌then◌else◌, Result, Ok, Err}
use Rattle.hub_envelope.specs.Answer.{answer_to}
use Rattle.hub_life.specs.Word.{event_of}
use Rattle.hub_origin.specs.Origin.{origin_answer}
use Rattle.hub_text.specs.Reading.{◌>>=◌, IsReadAs, some_or}
use Rattle.serde_json.specs.Data.{Data, null, boolean, number, string, array, object, Items, no_items, item, Members, no_members, member}
use Rattle.serde_json.specs.Find.{as_array, as_number, as_str, as_u64, get}
use Rattle.hub_script.specs.declared.script.AgentKind.{AgentKind}
use Rattle.hub_script.specs.declared.script.AgentKind.TheVariants.{Window, Worker}
use Rattle.hub_script.specs.declared.error.ScriptError.{ScriptError}
use Rattle.hub_script.specs.declared.error.ScriptError.TheVariants.{OutOfMemory, Syntax}
use Rattle.hub_script.specs.Shapes.{BODY, EVENT, FieldType, FieldValue, KIND, LIST, NUMBER, PAIR, QUEUE_WORD, TEXT, URL}

-- what is read, or what is wrong in a script line
abbrev pub ScriptRead : Type 0 → Type 0
ScriptRead X = Result X ScriptError

-- what was returned is what is read; running out of memory says nothing of the script line
abbrev pub IsRead : {X : Type 0} → ScriptRead X → ScriptRead X → Type 0
IsRead result read = IsReadAs OutOfMemory (λ x. x) result read

abbrev pub member_names : Members → List (List ℕ)
member_names no_members = []
member_names (member name d ms) = name ∷ member_names ms

-- the names of an object's fields
abbrev pub field_names : Data → List (List ℕ)
field_names null = []
field_names (boolean b) = []
field_names (number n) = []
field_names (string s) = []
field_names (array ds) = []
field_names (object ms) = member_names ms

abbrev pub value_in : List ℕ → Data → ScriptRead Data
value_in name d = some_or Syntax (get name d)

-- a JSON string
abbrev pub text_in : List ℕ → Data → ScriptRead (List ℕ)
text_in name d = some_or Syntax (option_and_then as_str (get name d))

abbrev pub small : ℕ → Option ℕ
small n = if nat_lt n (2 ^ 32) then Some n else None

-- a whole number from 0 to 4294967295
abbrev pub number_in : List ℕ → Data → ScriptRead ℕ
number_in name d = some_or Syntax (option_and_then small (option_and_then as_u64 (option_and_then as_number (get name d))))

-- a word that means something
abbrev pub word_in : {A : Type 0} → (List ℕ → Option A) → List ℕ → Data → ScriptRead A
word_in meaning name d = text_in name d >>= λ word. some_or Syntax (meaning word)

abbrev pub kind_of : List ℕ → Option AgentKind
kind_of word = if bytes_eq word (codes "window") then Some Window else (if bytes_eq word (codes "worker") then Some Worker else None)

abbrev pub queue_of : List ℕ → Option ⊤
queue_of word = if bytes_eq word (codes "queue") then Some tt else None

-- the texts with those of an array behind them
abbrev pub texts_from : List (List ℕ) → Items → ScriptRead (List (List ℕ))
texts_from texts no_items = Ok texts
texts_from texts (item d ds) = some_or Syntax (as_str d) >>= λ text. texts_from (texts ++ text ∷ []) ds

abbrev pub texts_of : Data → ScriptRead (List (List ℕ))
texts_of d = some_or Syntax (as_array d) >>= texts_from []

abbrev pub texts_at : Option Data → ScriptRead (List (List ℕ))
texts_at None = Ok []
texts_at (Some d) = texts_of d

abbrev pub two_of : List (List ℕ) → ScriptRead (List ℕ × List ℕ)
two_of (first ∷ second ∷ []) = Ok (first, second)
two_of texts = Err Syntax

-- what is read of the field of that name
abbrev pub field_in : (t : FieldType) → List ℕ → Data → ScriptRead (FieldValue t)
field_in TEXT name d = text_in name d
field_in NUMBER name d = number_in name d
field_in KIND name d = word_in kind_of name d
field_in URL name d = text_in name d >>= λ url. Ok (origin_answer url)
field_in PAIR name d = value_in name d >>= texts_of >>= two_of
field_in BODY name d = value_in name d >>= λ value. Ok (answer_to (Some value))
field_in LIST name d = texts_at (get name d)
field_in QUEUE_WORD name d = word_in queue_of name d
field_in EVENT name d = word_in event_of name d

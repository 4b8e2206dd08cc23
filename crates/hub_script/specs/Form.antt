-- How a text line is read to a form: as a JSON object, by its keyword, field by field.
use Rattle.std.specs.Prelude.{ℕ, List, [], ◌∷◌, Bool, is_some, Ok, Err, if◌then◌else◌}
use Rattle.std.specs.List.{list_all}
use Rattle.std.specs.Str.{is_utf8}
use Rattle.serde_json.specs.Data.{Data}
use Rattle.serde_json.specs.Find.{as_object}
use Rattle.serde_json.specs.Read.{read}
use Rattle.hub_text.specs.Reading.{◌>>=◌, some_or}
use Rattle.hub_script.specs.declared.form.Form.{Form}
use Rattle.hub_script.specs.declared.keyword.Keyword.{Keyword}
use Rattle.hub_script.specs.declared.error.ScriptError.TheVariants.{Syntax, UnknownAction}
use Rattle.hub_script.specs.Fields.{ScriptRead, field_in, field_names}
use Rattle.hub_script.specs.Shapes.{Fields, FormOf, Shape, shape, has_name, keyword_of, shape_of}

-- the form of the fields of an object, which are read in order
abbrev pub fields_in : (fields : Fields) → FormOf fields → Data → ScriptRead Form
fields_in [] made d = Ok made
fields_in (field ∷ fields) made d = field_in field.1 field.0 d >>= λ value. fields_in fields (made value) d

abbrev pub form_in : Shape → Data → ScriptRead Form
form_in (shape fields made) d = fields_in fields made d

abbrev pub form_by : Keyword → Data → ScriptRead Form
form_by k d = form_in (shape_of k) d

-- the object has no other fields
abbrev pub has_only : Keyword → Data → Bool
has_only k d = list_all (has_name k) (field_names d)

-- the form that the keyword stands for, with exactly its fields
unfoldable pub form_with : Keyword → Data → ScriptRead Form
form_with k d = if has_only k d then form_by k d else Err Syntax

-- the form of an object
abbrev pub object_form : Data → ScriptRead Form
object_form d = some_or UnknownAction (keyword_of d) >>= λ k. form_with k d

-- the value, where it is an object
abbrev pub object_only : Data → ScriptRead Data
object_only d = if is_some (as_object d) then Ok d else Err Syntax

-- the JSON object that a text is
abbrev pub json_object_in_text : List ℕ → ScriptRead Data
json_object_in_text text = some_or Syntax (read text) >>= object_only

-- the form of the object that a text is
unfoldable pub form_in_text : List ℕ → ScriptRead Form
form_in_text text = json_object_in_text text >>= object_form

-- what the bytes of a text line say by themselves
unfoldable pub form_of : List ℕ → ScriptRead Form
form_of bytes = if is_utf8 bytes then form_in_text bytes else Err Syntax

-- The data that a JSON value stands for. The value has its numbers as texts, and its members in the order of the text.
use Rattle.std.specs.Prelude.{◌≡◌, ℕ, pos, ◌≤◌, ◌&&◌, List, [], ◌∷◌, Bool, true, Option, is_some, unwrap_or, option_and_then}
use Rattle.json.specs.Json as json
use Rattle.json.specs.Lex.{tokens}
use Rattle.json.specs.Tree as tree
use Rattle.json.specs.Value.{items_view, value_view}
use Rattle.json.specs.declared.value.Value.{Value}
use Rattle.serde_json.specs.Data.{negative, Data, null, boolean, number, string, array, object, Items, no_items, item, Members, no_members, put}
use Rattle.serde_json.specs.Read.{max_depth, number_of}

-- each number in the value is in range
abbrev mutual
  pub are_numbers_in_range : json.Json → Bool
  are_numbers_in_range json.null = true
  are_numbers_in_range (json.boolean b) = true
  are_numbers_in_range (json.number s) = is_some (number_of s)
  are_numbers_in_range (json.string s) = true
  are_numbers_in_range (json.array js) = items_in_range js
  are_numbers_in_range (json.object ms) = members_in_range ms

  pub items_in_range : json.Items → Bool
  items_in_range json.no_items = true
  items_in_range (json.item j js) = are_numbers_in_range j && items_in_range js

  pub members_in_range : json.Members → Bool
  members_in_range json.no_members = true
  members_in_range (json.member k j ms) = are_numbers_in_range j && members_in_range ms

-- the data of a value; a number out of range, which no line has that is read, is an integer below 0 that JSON can't write
abbrev mutual
  pub data_of : json.Json → Data
  data_of json.null = null
  data_of (json.boolean b) = boolean b
  data_of (json.number s) = number (unwrap_or (number_of s) (negative (pos 0)))
  data_of (json.string s) = string s
  data_of (json.array js) = array (items_of js)
  data_of (json.object ms) = object (members_of ms no_members)

  pub items_of : json.Items → Items
  items_of json.no_items = no_items
  items_of (json.item j js) = item (data_of j) (items_of js)

  -- the members go in one after another, so the last value of a key stays
  pub members_of : json.Members → Members → Members
  members_of json.no_members found = found
  members_of (json.member k j ms) found = members_of ms (put k (data_of j) found)

abbrev pub json_names : json.Members → List (List ℕ)
json_names json.no_members = []
json_names (json.member k j ms) = k ∷ json_names ms

abbrev pub data_in : {A : Type 0} → Value A → Data
data_in v = data_of (value_view v)

abbrev pub items_in : {A : Type 0} → List (Value A) → Items
items_in vs = items_of (items_view vs)

-- the JSON value that a text is
abbrev pub read_json : List ℕ → Option json.Json
read_json text = option_and_then (λ p. json.if_last p.0 p.1) (json.value max_depth (tokens text))

-- what is written of the value reads as its data
pub record IsWritable (j : json.Json) : Type 0 where
  pub numbers : tree.HasNumbers j
  pub in_range : are_numbers_in_range j ≡ true
  pub nests : tree.depth j ≤ max_depth

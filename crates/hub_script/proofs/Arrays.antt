-- The texts of an array.
use Rattle.std.proofs.Common.{◌≡◌, ℕ, ◌+◌, ◌<◌, ◌≤◌, List, [], ◌∷◌, ◌++◌, length, get_or, drop, Option, Some, Ok, ap, sym, ◌∙◌}
use Rattle.std.specs.declared.alloc.Global.{Global}
use Rattle.std.proofs.lemmas.List.{at_drop_more, at_drop_all}
use Rattle.hub_text.specs.Reading.{◌>>=◌, some_or}
use Rattle.serde_json.specs.Data.{Data, Items}
use Rattle.serde_json.specs.Find.{as_array, as_str}
use Rattle.json.specs.declared.value.Value.{Value}
use Rattle.hub_script.specs.declared.error.ScriptError.TheVariants.{Syntax}
use Rattle.hub_script.specs.Fields.{texts_from, texts_of}
use Rattle.hub_script.specs.JsonData.{data_in, items_in}

-- what is read of the items from the i-th on is what is read of all
abbrev pub IsReadSoFar : List (Value Global) → List (List ℕ) → ℕ → Type 0
IsReadSoFar xs texts i = texts_from texts (items_in (drop i xs)) ≡ texts_from [] (items_in xs)

-- what is read of the items from the i-th on, by that item
at_item : (xs : List (Value Global)) (texts : List (List ℕ)) (i : ℕ) (v : Value Global) → i < length xs → v ≡ get_or xs i v
    → texts_from texts (items_in (drop i xs)) ≡ (some_or Syntax (as_str (data_in v)) >>= λ text. texts_from (texts ++ text ∷ []) (items_in (drop (i + 1) xs)))
at_item xs texts i v lt is =
    let more : texts_from texts (items_in (drop i xs)) ≡ (some_or Syntax (as_str (data_in (get_or xs i v))) >>= λ text. texts_from (texts ++ text ∷ []) (items_in (drop (i + 1) xs))) = at_drop_more (λ vs. texts_from texts (items_in vs)) xs i v lt in
    more ∙ ap (λ (x : Value Global). some_or Syntax (as_str (data_in x)) >>= λ text. texts_from (texts ++ text ∷ []) (items_in (drop (i + 1) xs))) (sym is)

pub one_more : (xs : List (Value Global)) (texts : List (List ℕ)) (i : ℕ) (v : Value Global) (text : List ℕ) → i < length xs → v ≡ get_or xs i v → Some text ≡ as_str (data_in v)
    → IsReadSoFar xs texts i → IsReadSoFar xs (texts ++ text ∷ []) (i + 1)
one_more xs texts i v text lt is found so_far =
    ap (λ (o : Option (List ℕ)). some_or Syntax o >>= λ text. texts_from (texts ++ text ∷ []) (items_in (drop (i + 1) xs))) found
    ∙ sym (at_item xs texts i v lt is) ∙ so_far

of_array : (d : Data) (ds : Items) → Some ds ≡ as_array d → texts_of d ≡ texts_from [] ds
of_array d ds h = ap (λ (o : Option Items). some_or Syntax o >>= texts_from []) (sym h)

pub all_read : (d : Data) (xs : List (Value Global)) (texts : List (List ℕ)) (i : ℕ) → Some (items_in xs) ≡ as_array d → length xs ≤ i → IsReadSoFar xs texts i → texts_of d ≡ Ok texts
all_read d xs texts i array past so_far =
    of_array d (items_in xs) array ∙ sym so_far ∙ at_drop_all (λ vs. texts_from texts (items_in vs)) xs i past

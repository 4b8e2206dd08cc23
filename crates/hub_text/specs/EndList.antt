-- Lists of ends: `-`, or numbers joined by single commas.
use Rattle.std.specs.Prelude.{◌≡◌, ℕ, ◌==◌, List, [], ◌∷◌, ◌++◌, Bool, true, false, Option, Some, None, option_and_then, option_map, codes, bytes_eq, if◌then◌else◌}
use Rattle.std.specs.Fmt.{decimal}
use Rattle.std.specs.List.{flat_map, slice_split}
use Rattle.hub_envelope.specs.declared.ids.EndId.{EndId}
use Rattle.hub_text.specs.Number.{number_of}

-- the end of that number, where the word writes one up to the limit
abbrev pub end_read : ℕ → List ℕ → Option EndId
end_read max word = option_map (λ n. record { 0 = n }) (number_of max word)

-- the ends with the one that the word names
abbrev pub with_end : ℕ → List EndId → List ℕ → Option (List EndId)
with_end max ends word = option_map (λ e. ends ++ e ∷ []) (end_read max word)

-- the ends with those that the words name
abbrev pub ends_from : ℕ → List EndId → List (List ℕ) → Option (List EndId)
ends_from max ends [] = Some ends
ends_from max ends (word ∷ words) = option_and_then (λ longer. ends_from max longer words) (with_end max ends word)

-- the ends of a list that has no number above the limit
unfoldable pub ends_listed : ℕ → List ℕ → Option (List EndId)
ends_listed max list = if bytes_eq list (codes "-") then Some [] else ends_from max [] (slice_split (λ b. b == 44) list)

-- a comma and a number for each
abbrev pub more_ends_text : List EndId → List ℕ
more_ends_text ends = flat_map (λ e. codes "," ++ decimal e.0) ends

-- how a list is written
abbrev pub ends_text : List EndId → List ℕ
ends_text [] = codes "-"
ends_text (e ∷ ends) = decimal e.0 ++ more_ends_text ends

-- the end that the word names was added, or it names none
abbrev pub Adds : ℕ → List EndId → List ℕ → Bool → List EndId → Type 0
Adds max old word true new = with_end max old word ≡ Some new
Adds max old word false new = with_end max old word ≡ None

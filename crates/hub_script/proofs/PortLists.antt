-- What names name, name by name.
use Rattle.std.proofs.Common.{◌≡◌, ℕ, ◌+◌, ◌<◌, List, [], ◌∷◌, ◌++◌, length, get_or, drop, Ok, Err, ap, sym, ◌∙◌}
use Rattle.std.proofs.lemmas.List.{at_drop_more}
use Rattle.hub_text.specs.Reading.{◌>>=◌}
use Rattle.hub_script.specs.declared.script_reader.NamedEnd.{NamedEnd}
use Rattle.hub_script.specs.declared.error.ScriptError.{ScriptError}
use Rattle.hub_script.specs.Context.{declared_end_of_name, declared_ends}
use Rattle.hub_script.specs.Fields.{ScriptRead}
use Rattle.hub_script.specs.Known.{Known}

-- the ports so far, and those of the names from the i-th on, are those of all names
abbrev pub AreNamedSoFar : Known → List (List ℕ) → List NamedEnd → ℕ → Type 0
AreNamedSoFar k names ports i = declared_ends k ports (drop i names) ≡ declared_ends k [] names

at_name : (k : Known) (names : List (List ℕ)) (ports : List NamedEnd) (i : ℕ) (n : List ℕ) → i < length names → n ≡ get_or names i n
    → declared_ends k ports (drop i names) ≡ (declared_end_of_name k n >>= λ x. declared_ends k (ports ++ x ∷ []) (drop (i + 1) names))
at_name k names ports i n lt is =
    let more : declared_ends k ports (drop i names) ≡ (declared_end_of_name k (get_or names i n) >>= λ x. declared_ends k (ports ++ x ∷ []) (drop (i + 1) names)) = at_drop_more (declared_ends k ports) names i n lt in
    more ∙ ap (λ (m : List ℕ). declared_end_of_name k m >>= λ x. declared_ends k (ports ++ x ∷ []) (drop (i + 1) names)) (sym is)

pub one_more : (k : Known) (names : List (List ℕ)) (ports : List NamedEnd) (i : ℕ) (n : List ℕ) (x : NamedEnd) → i < length names → n ≡ get_or names i n → declared_end_of_name k n ≡ Ok x
    → AreNamedSoFar k names ports i → AreNamedSoFar k names (ports ++ x ∷ []) (i + 1)
one_more k names ports i n x lt is found so_far =
    sym (ap (λ (r : ScriptRead NamedEnd). r >>= λ y. declared_ends k (ports ++ y ∷ []) (drop (i + 1) names)) found) ∙ sym (at_name k names ports i n lt is) ∙ so_far

pub no_port : (k : Known) (names : List (List ℕ)) (ports : List NamedEnd) (i : ℕ) (n : List ℕ) (e : ScriptError) → i < length names → n ≡ get_or names i n → declared_end_of_name k n ≡ Err e
    → AreNamedSoFar k names ports i → declared_ends k [] names ≡ Err e
no_port k names ports i n e lt is bad so_far =
    sym so_far ∙ at_name k names ports i n lt is ∙ ap (λ (r : ScriptRead NamedEnd). r >>= λ y. declared_ends k (ports ++ y ∷ []) (drop (i + 1) names)) bad

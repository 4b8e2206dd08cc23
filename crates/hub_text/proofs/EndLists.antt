-- Reading a list of ends, word by word.
use Rattle.std.proofs.Common.{◌≡◌, ℕ, ◌+◌, ◌<◌, ◌≤◌, List, [], length, get_or, drop, false, cond, bytes_eq, codes, Option, Some, None, option_and_then, sym, ap, ◌∙◌}
use Rattle.std.specs.List.{slice_split}
use Rattle.std.specs.Prelude.{◌==◌}
use Rattle.std.proofs.lemmas.List.{at_drop_more, at_drop_all}
use Rattle.hub_envelope.specs.declared.ids.EndId.{EndId}
use Rattle.hub_text.specs.EndList.{ends_from, ends_listed, with_end}

-- the words of a list
abbrev pub words_of : List ℕ → List (List ℕ)
words_of list = slice_split (λ b. b == 44) list

-- what is read of the words from the n-th on is what is read of all
abbrev pub ReadSoFar : ℕ → List ℕ → List EndId → ℕ → Type 0
ReadSoFar max list ends n = ends_from max ends (drop n (words_of list)) ≡ ends_from max [] (words_of list)

pub not_none : (max : ℕ) (list : List ℕ) → bytes_eq list (codes "-") ≡ false → ends_listed max list ≡ ends_from max [] (words_of list)
unfolding ends_listed
not_none max list h = ap (λ b. cond b (Some []) (ends_from max [] (words_of list))) h

split_word : (max : ℕ) (list : List ℕ) (ends : List EndId) (n : ℕ) (w : List ℕ) → (n < length (words_of list)) × (w ≡ get_or (words_of list) n w) → ReadSoFar max list ends n
    → option_and_then (λ longer. ends_from max longer (drop (n + 1) (words_of list))) (with_end max ends w) ≡ ends_from max [] (words_of list)
split_word max list ends n w h so_far =
    ap (λ x. option_and_then (λ longer. ends_from max longer (drop (n + 1) (words_of list))) (with_end max ends x)) h.1
    ∙ sym (at_drop_more (ends_from max ends) (words_of list) n w h.0) ∙ so_far

pub one_more : (max : ℕ) (list : List ℕ) (ends longer : List EndId) (n : ℕ) (w : List ℕ) → (n < length (words_of list)) × (w ≡ get_or (words_of list) n w) → ReadSoFar max list ends n
    → with_end max ends w ≡ Some longer → ReadSoFar max list longer (n + 1)
one_more max list ends longer n w h so_far added =
    sym (ap (λ (r : Option (List EndId)). option_and_then (λ (x : List EndId). ends_from max x (drop (n + 1) (words_of list))) r) added) ∙ split_word max list ends n w h so_far

pub refused : (max : ℕ) (list : List ℕ) (ends : List EndId) (n : ℕ) (w : List ℕ) → bytes_eq list (codes "-") ≡ false → (n < length (words_of list)) × (w ≡ get_or (words_of list) n w) → ReadSoFar max list ends n
    → with_end max ends w ≡ None → ends_listed max list ≡ None
refused max list ends n w other h so_far bad =
    not_none max list other ∙ sym (split_word max list ends n w h so_far) ∙ ap (λ (r : Option (List EndId)). option_and_then (λ (x : List EndId). ends_from max x (drop (n + 1) (words_of list))) r) bad

pub all_read : (max : ℕ) (list : List ℕ) (ends : List EndId) (n : ℕ) → bytes_eq list (codes "-") ≡ false → length (words_of list) ≤ n → ReadSoFar max list ends n → ends_listed max list ≡ Some ends
all_read max list ends n other past so_far = not_none max list other ∙ sym so_far ∙ at_drop_all (ends_from max ends) (words_of list) n past

-- A list of ports that was written reads back.
use Rattle.std.proofs.Common.{◌≡◌, ◌≢◌, ℕ, suc, ◌<◌, ◌≤◌, ◌^◌, List, [], ◌∷◌, ◌++◌, length, get_or, map, true, false, cond, eqb, ◌&&◌, ◌||◌, bytes_eq, codes, Option, Some, option_and_then, option_map, Ok, Err, refl, sym, ap, ◌∙◌, arith, length-append, append_assoc}
use Rattle.std.proofs.lemmas.List.{append-nil}
use Rattle.std.specs.Prelude.{◌==◌}
use Rattle.std.specs.Fmt.{decimal}
use Rattle.std.specs.List.{All, list_all}
use Rattle.std.proofs.lemmas.Bool.Decides.{nat_tests}
use Rattle.std.proofs.lemmas.Fmt.{decimal_nonempty, digits_decimal}
use Rattle.std.proofs.lemmas.List.Elements.{All-head, All-tail}
use Rattle.std.proofs.lemmas.List.Splits.{slice_split_none, slice_split_at}
use Rattle.hub_envelope.specs.declared.ids.EndId.{EndId}
use Rattle.hub_text.specs.EndList.{ends_from, ends_listed, ends_text, more_ends_text, with_end}
use Rattle.hub_text.specs.Number.{is_digit}
use Rattle.hub_text.specs.Reading.{◌>>=◌, some_or}
use Rattle.hub_text.proofs.EndLists.{not_none, words_of}
use Rattle.hub_text.proofs.Numbers.{own, written_is}
use Rattle.hub_trace.specs.declared.error.LogError.TheVariants.{BadLine}
use Rattle.hub_trace.specs.Limits.{AreDistinct, IsPortList}
use Rattle.hub_trace.specs.LogLine.{end_in, ports_in_logs, ports_tested}
use Rattle.hub_trace.specs.PortList.{lists_end}
use Rattle.hub_trace.proofs.Bytes.{All-from_Lacks, Lacks-decimal, left_of}
use Rattle.hub_trace.proofs.PortLists.{distinct_tail, test_from_list}

pub small_end : (n : ℕ) → n ≤ 65535 → n < 2 ^ 64
small_end n le = omega arith

pub end_back : (e : EndId) → e.0 ≤ 65535 → end_in (decimal e.0) ≡ Ok e
end_back e le = ap (λ (n : Option ℕ). some_or BadLine n >>= λ (k : ℕ). Ok (record { 0 = k })) (written_is 65535 e.0 (decimal e.0) le (omega arith) refl)

-- ---- where the ends differ, none is found before its place

at_seam : (xs ys : List EndId) (e d : EndId) → get_or (xs ++ e ∷ ys) (length xs) d ≡ e
at_seam [] ys e d = refl
at_seam (x ∷ xs) ys e d = at_seam xs ys e d

first_apart : (x : EndId) (xs ys : List EndId) (e : EndId) → AreDistinct (x ∷ (xs ++ e ∷ ys)) → x.0 ≢ e.0
first_apart x xs ys e apart same =
    apart 0 (suc (length xs)) e (omega arith) (omega (arith, length-append xs (e ∷ ys))) (same ∙ ap (λ y. y.0) (sym (at_seam xs ys e e)))

pub none_before : (xs ys : List EndId) (e : EndId) → AreDistinct (xs ++ e ∷ ys) → lists_end xs e.0 ≡ false
none_before [] ys e apart = refl
none_before (x ∷ xs) ys e apart =
    let differ = first_apart x xs ys e apart in
    let other : eqb x.0 e.0 ≡ false = grind (arith, nat_tests) in
    ap (λ b. b || lists_end xs e.0) other ∙ none_before xs ys e (distinct_tail x (xs ++ e ∷ ys) apart)

-- ---- the words of the list

abbrev written : List EndId → List (List ℕ)
written ends = map (λ e. decimal e.0) ends

no_comma : (e : EndId) → e.0 ≤ 65535 → All (λ b. (b == 44) ≡ false) (decimal e.0)
no_comma e le = All-from_Lacks 44 (decimal e.0) (Lacks-decimal 44 e.0 refl (small_end e.0 le))

words_back : (e : EndId) (ends : List EndId) → All (λ x. x.0 ≤ 65535) (e ∷ ends) → words_of (decimal e.0 ++ more_ends_text ends) ≡ written (e ∷ ends)
words_back e [] known = ap words_of (append-nil (decimal e.0)) ∙ slice_split_none (λ b. b == 44) (decimal e.0) (no_comma e (All-head (λ (x : EndId). x.0 ≤ 65535) e [] known))
words_back e (next ∷ ends) known =
    slice_split_at (λ b. b == 44) (decimal e.0) 44 (decimal next.0 ++ more_ends_text ends) (no_comma e (All-head (λ (x : EndId). x.0 ≤ 65535) e (next ∷ ends) known)) refl
    ∙ ap (λ words. decimal e.0 ∷ words) (words_back next ends (All-tail (λ (x : EndId). x.0 ≤ 65535) e (next ∷ ends) known))

-- ---- read word by word

one_back : (done : List EndId) (e : EndId) → e.0 ≤ 65535 → with_end 65535 done (decimal e.0) ≡ Some (done ++ e ∷ [])
one_back done e le = ap (λ (n : Option ℕ). option_map (λ (x : EndId). done ++ x ∷ []) (option_map (λ (k : ℕ). record { 0 = k }) n)) (written_is 65535 e.0 (decimal e.0) le (omega arith) refl)

ends_back : (done ends : List EndId) → All (λ e. e.0 ≤ 65535) ends → ends_from 65535 done (written ends) ≡ Some (done ++ ends)
ends_back done [] known = ap (λ (xs : List EndId). Some xs) (sym (append-nil done))
ends_back done (e ∷ ends) known =
    ap (λ (r : Option (List EndId)). option_and_then (λ (longer : List EndId). ends_from 65535 longer (written ends)) r) (one_back done e (All-head (λ (x : EndId). x.0 ≤ 65535) e ends known))
    ∙ ends_back (done ++ e ∷ []) ends (All-tail (λ (x : EndId). x.0 ≤ 65535) e ends known)
    ∙ ap (λ (xs : List EndId). Some xs) (append_assoc done (e ∷ []) ends)

-- ---- the list is not `-`

not_dash : (word rest : List ℕ) → 0 < length word → list_all is_digit word ≡ true → bytes_eq (word ++ rest) (codes "-") ≡ false
not_dash [] rest some digits = absurd (omega arith)
not_dash (b ∷ word) rest some digits =
    let digit : is_digit b ≡ true = left_of (is_digit b) (list_all is_digit word) digits in
    let other : eqb b 45 ≡ false = grind (arith, nat_tests) in
    ap (λ t. t && bytes_eq (word ++ rest) []) other

list_back : (ends : List EndId) → All (λ x. x.0 ≤ 65535) ends → ends_listed 65535 (ends_text ends) ≡ Some ends
unfolding ends_listed
list_back [] known = refl
list_back (e ∷ ends) known =
    let small = small_end e.0 (All-head (λ (x : EndId). x.0 ≤ 65535) e ends known) in
    not_none 65535 (decimal e.0 ++ more_ends_text ends) (not_dash (decimal e.0) (more_ends_text ends) (decimal_nonempty e.0 small) (digits_decimal own e.0 small))
    ∙ ap (ends_from 65535 []) (words_back e ends known)
    ∙ ends_back [] (e ∷ ends) known

pub ports-back : (ends : List EndId) → IsPortList ends → ports_in_logs (ends_text ends) ≡ Ok ends
unfolding ports_in_logs
ports-back ends h =
    ap (λ (r : Option (List EndId)). some_or BadLine r >>= ports_tested) (list_back ends h.known)
    ∙ ap (λ b. cond b (Ok ends) (Err BadLine)) (test_from_list ends h)

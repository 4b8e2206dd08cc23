-- Ends that differ, and when they may be a list of ports.
use Rattle.std.proofs.Common.{◌≡◌, ◌≢◌, ℕ, zero, suc, ◌<◌, ◌≤◌, List, [], ◌∷◌, ◌++◌, length, get_or, Bool, true, false, eqb, leb, not, ◌&&◌, ◌||◌, refl, sym, ap, ◌∙◌, arith}
use Rattle.std.specs.Prelude.{IsTrue}
use Rattle.std.specs.List.{All}
use Rattle.std.proofs.lemmas.Bool.Decides.{nat_tests}
use Rattle.std.proofs.lemmas.List.Elements.{All-nil, All-cons, All-head, All-tail}
use Rattle.std.proofs.lemmas.List.Quantifiers.{all_pairs_push}
use Rattle.hub_envelope.specs.declared.ids.EndId.{EndId}
use Rattle.hub_trace.specs.Limits.{AreDistinct, IsPortList}
use Rattle.hub_trace.specs.PortList.{are_distinct, are_ends, lists_end, is_port_list}
use Rattle.hub_trace.proofs.Bytes.{both, left_of, right_of, not_true}

pub first_no : (a b : Bool) → (a || b) ≡ false → a ≡ false
first_no true b h = h
first_no false b h = refl

pub second_no : (a b : Bool) → (a || b) ≡ false → b ≡ false
second_no true b h = let wrong : true ≡ false = h in cc
second_no false b h = h

-- none of the ends is the one that the list was searched for
pub apart : (ends : List EndId) (n : ℕ) → lists_end ends n ≡ false → (k : ℕ) (d : EndId) → k < length ends → (get_or ends k d).0 ≡ n → ⊥
apart [] n h k d lt e = omega arith
apart (x ∷ ends) n h zero d lt e =
    let fresh : eqb x.0 n ≡ false = first_no (eqb x.0 n) (lists_end ends n) h in
    let yes : eqb x.0 n ≡ true = grind (arith, nat_tests) in
    let wrong : true ≡ false = sym yes ∙ fresh in cc
apart (x ∷ ends) n h (suc k) d lt e = apart ends n (second_no (eqb x.0 n) (lists_end ends n) h) k d (omega arith) e

-- where no end is the one of that number, a search finds none
pub not_found : (ends : List EndId) (n : ℕ) → ((k : ℕ) (d : EndId) → k < length ends → (get_or ends k d).0 ≢ n) → lists_end ends n ≡ false
not_found [] n h = refl
not_found (x ∷ ends) n h =
    let differ : x.0 ≢ n = h 0 x (omega arith) in
    let other : eqb x.0 n ≡ false = grind (arith, nat_tests) in
    ap (λ b. b || lists_end ends n) other ∙ not_found ends n (λ k d lt. h (suc k) d (omega arith))

pub no_pairs : AreDistinct []
no_pairs = λ i j d lt below. absurd (omega arith)

pub distinct_more : (ends : List EndId) (e : EndId) → AreDistinct ends → lists_end ends e.0 ≡ false → AreDistinct (ends ++ e ∷ [])
distinct_more ends e h fresh = all_pairs_push (λ (a b : EndId). a.0 ≢ b.0) ends e h (λ k d lt. apart ends e.0 fresh k d lt)

pub distinct_tail : (x : EndId) (ends : List EndId) → AreDistinct (x ∷ ends) → AreDistinct ends
distinct_tail x ends h i j d lt below = h (suc i) (suc j) d (omega arith) (omega arith)

distinct_head : (x : EndId) (ends : List EndId) → AreDistinct (x ∷ ends) → lists_end ends x.0 ≡ false
distinct_head x ends h = not_found ends x.0 (λ k d lt same. h 0 (suc k) d (omega arith) (omega arith) (sym same))

pairs_from_test : (ends : List EndId) → are_distinct ends ≡ true → (i j : ℕ) (d : EndId) → i < j → j < length ends → (get_or ends i d).0 ≢ (get_or ends j d).0
pairs_from_test [] h i j d lt below = absurd (omega arith)
pairs_from_test (x ∷ ends) h zero zero d lt below = absurd (omega arith)
pairs_from_test (x ∷ ends) h zero (suc j) d lt below =
    let fresh = not_true (lists_end ends x.0) (left_of (not (lists_end ends x.0)) (are_distinct ends) h) in
    λ same. apart ends x.0 fresh j d (omega arith) (sym same)
pairs_from_test (x ∷ ends) h (suc i) zero d lt below = absurd (omega arith)
pairs_from_test (x ∷ ends) h (suc i) (suc j) d lt below =
    pairs_from_test ends (right_of (not (lists_end ends x.0)) (are_distinct ends) h) i j d (omega arith) (omega arith)

distinct_from_test : (ends : List EndId) → are_distinct ends ≡ true → AreDistinct ends
distinct_from_test ends h = λ i j d lt below. pairs_from_test ends h i j d lt below

test_from_distinct : (ends : List EndId) → AreDistinct ends → are_distinct ends ≡ true
test_from_distinct [] h = refl
test_from_distinct (x ∷ ends) h = both (not (lists_end ends x.0)) (are_distinct ends) (ap not (distinct_head x ends h)) (test_from_distinct ends (distinct_tail x ends h))

known_from_test : (ends : List EndId) → are_ends ends ≡ true → All (λ e. e.0 ≤ 65535) ends
known_from_test [] h = All-nil (λ (e : EndId). e.0 ≤ 65535)
known_from_test (x ∷ ends) h =
    let test = left_of (leb x.0 65535) (are_ends ends) h in
    let here : x.0 ≤ 65535 = grind (arith, nat_tests) in
    All-cons (λ (e : EndId). e.0 ≤ 65535) x ends here (known_from_test ends (right_of (leb x.0 65535) (are_ends ends) h))

test_from_known : (ends : List EndId) → All (λ e. e.0 ≤ 65535) ends → are_ends ends ≡ true
test_from_known [] h = refl
test_from_known (x ∷ ends) h =
    let here = All-head (λ (e : EndId). e.0 ≤ 65535) x ends h in
    let test : leb x.0 65535 ≡ true = grind (arith, nat_tests) in
    both (leb x.0 65535) (are_ends ends) test (test_from_known ends (All-tail (λ (e : EndId). e.0 ≤ 65535) x ends h))

pub list_from_test : (ends : List EndId) → is_port_list ends ≡ true → IsPortList ends
list_from_test ends h =
    let few = left_of (leb (length ends) 16) (are_ends ends && are_distinct ends) h in
    let rest = right_of (leb (length ends) 16) (are_ends ends && are_distinct ends) h in
    record {
      few = grind (arith, nat_tests);
      known = known_from_test ends (left_of (are_ends ends) (are_distinct ends) rest);
      distinct = distinct_from_test ends (right_of (are_ends ends) (are_distinct ends) rest);
    }

pub test_from_list : (ends : List EndId) → IsPortList ends → is_port_list ends ≡ true
test_from_list ends h =
    let le = h.few in
    let few : leb (length ends) 16 ≡ true = grind (arith, nat_tests) in
    both (leb (length ends) 16) (are_ends ends && are_distinct ends) few (both (are_ends ends) (are_distinct ends) (test_from_known ends h.known) (test_from_distinct ends h.distinct))

pub test_says : (ends : List EndId) (b : Bool) → b ≡ is_port_list ends → (IsTrue b → IsPortList ends) × (IsPortList ends → IsTrue b)
test_says ends b is = ((λ t. list_from_test ends (sym is ∙ t)), (λ h. is ∙ test_from_list ends h))

-- Logs have one list of deliveries.
use Rattle.std.proofs.Common.{◌≡◌, ◌≢◌, ℕ, suc, ◌<◌, ◌⊎◌, inl, inr, true, false, ◌&&◌, List, [], ◌∷◌, ◌++◌, map, refl, ap, sym, ◌∙◌, subst, arith, ◌==◌, nat_lt, append-nil}
use Rattle.std.specs.List.{AllPairs, filter, flat_map, AllByRecursion as Each}
use Rattle.std.proofs.lemmas.Bool.Decides.{nat_tests}
use Rattle.std.proofs.lemmas.List.Elements.{recursion_from_All}
use Rattle.hub_trace.specs.declared.delivered.SenderLineDeliveries.{SenderLineDeliveries}
use Rattle.hub_trace.specs.Deliveries.{DeliveriesAreOne, IsEarlierLine, names_under, parts_of}
use Rattle.hub_trace.specs.Verdict.{IsLineBefore}
use Rattle.hub_trace.proofs.Cases.{by_test, kept, dropped}
use Rattle.hub_trace.proofs.Faults.{same_line}
use Rattle.hub_trace.proofs.Lines.{filter_none}
use Rattle.hub_trace.proofs.Order.{Each-weaker}

-- each line is before all behind it
abbrev Rising : List SenderLineDeliveries → Type 0
Rising [] = Unit {0}
Rising (d ∷ ds) = Each (IsEarlierLine d) ds × Rising ds

Rising-from_pairs : (ds : List SenderLineDeliveries) → AllPairs IsEarlierLine ds → Rising ds
Rising-from_pairs [] h = tt
Rising-from_pairs (d ∷ ds) h = (
  recursion_from_All (IsEarlierLine d) ds (λ k e lt. h 0 (suc k) e (omega arith) (omega arith)),
  Rising-from_pairs ds (λ i j e lt below. h (suc i) (suc j) e (omega arith) (omega arith)),
)

before_other : (a b e l : ℕ) → (e < a) ⊎ ((e ≡ a) × (l < b)) → ((a == e) && (b == l)) ≡ false
before_other a b e l (inl h) = grind (arith, nat_tests)
before_other a b e l (inr h) = grind (arith, nat_tests)

before_chain : (a b c d e l : ℕ) → (a < c) ⊎ ((a ≡ c) × (b < d)) → (c < e) ⊎ ((c ≡ e) × (d < l)) → (a < e) ⊎ ((a ≡ e) × (b < l))
before_chain a b c d e l (inl h) (inl k) = inl (omega arith)
before_chain a b c d e l (inl h) (inr k) = inl (omega arith)
before_chain a b c d e l (inr h) (inl k) = inl (omega arith)
before_chain a b c d e l (inr h) (inr k) = inr (omega arith, omega arith)

at_itself : (a b : ℕ) → ((a == a) && (b == b)) ≡ true
at_itself a b = grind (arith, nat_tests)

-- nothing stands under a line before all of them
under_none : (x y : ℕ) (ds : List SenderLineDeliveries) → Each (λ d. IsLineBefore x y d.end.0 d.line.0) ds → names_under x y ds ≡ []
under_none x y ds h =
    ap (flat_map (λ d. d.names.items)) (filter_none (λ d. (d.end.0 == x) && (d.line.0 == y)) ds
    (Each-weaker (λ d. IsLineBefore x y d.end.0 d.line.0) (λ d. ((d.end.0 == x) && (d.line.0 == y)) ≡ false) (λ d k. before_other d.end.0 d.line.0 x y k) ds h))

-- under the first line stand its names alone
under_first : (d : SenderLineDeliveries) (ds : List SenderLineDeliveries) → Each (IsEarlierLine d) ds → names_under d.end.0 d.line.0 (d ∷ ds) ≡ d.names.items
under_first d ds h =
    let p = λ (e : SenderLineDeliveries). (e.end.0 == d.end.0) && (e.line.0 == d.line.0) in
    ap (flat_map (λ e. e.names.items)) (kept (p d) d (filter p ds) (at_itself d.end.0 d.line.0))
    ∙ ap (λ l. d.names.items ++ l) (under_none d.end.0 d.line.0 ds h) ∙ append-nil d.names.items

-- no line with names stands before the first of the others
no_earlier : (d : SenderLineDeliveries) (ds others : List SenderLineDeliveries) → Each (IsEarlierLine d) ds → d.names.items ≢ [] → Each (λ o. IsLineBefore d.end.0 d.line.0 o.end.0 o.line.0) others
    → ((x y : ℕ) → names_under x y (d ∷ ds) ≡ names_under x y others) → ⊥
no_earlier d ds others rising some later same =
    some (sym (under_first d ds rising) ∙ same d.end.0 d.line.0 ∙ under_none d.end.0 d.line.0 others later)

-- behind one first line the same stands
same_behind : (d e : SenderLineDeliveries) (ds es : List SenderLineDeliveries) → d.end.0 ≡ e.end.0 → d.line.0 ≡ e.line.0 → Each (IsEarlierLine d) ds → Each (IsEarlierLine e) es
    → ((x y : ℕ) → names_under x y (d ∷ ds) ≡ names_under x y (e ∷ es)) → (x y : ℕ) → names_under x y ds ≡ names_under x y es
same_behind d e ds es end line rd re same x y =
    let p = λ (o : SenderLineDeliveries). (o.end.0 == x) && (o.line.0 == y) in
    by_test (λ b. p d ≡ b → names_under x y ds ≡ names_under x y es) (p d)
    (λ _ t. let at = same_line d.end.0 d.line.0 x y t in
    under_none x y ds (subst (λ (q : ℕ × ℕ). Each (λ o. IsLineBefore q.0 q.1 o.end.0 o.line.0) ds) (λ i. (at.0 i, at.1 i)) rd)
    ∙ sym (under_none x y es (subst (λ (q : ℕ × ℕ). Each (λ o. IsLineBefore q.0 q.1 o.end.0 o.line.0) es) (λ i. ((sym end ∙ at.0) i, (sym line ∙ at.1) i)) re)))
    (λ _ t. let other : p e ≡ false = (λ i. (sym end i == x) && (sym line i == y)) ∙ t in
    ap (flat_map (λ o. o.names.items)) (sym (dropped (p d) d (filter p ds) t)) ∙ same x y ∙ ap (flat_map (λ o. o.names.items)) (dropped (p e) e (filter p es) other))
    refl

nat_cases : (a b : ℕ) → (a < b) ⊎ ((b < a) ⊎ (a ≡ b))
nat_cases a b =
    by_test (λ t. nat_lt a b ≡ t → (a < b) ⊎ ((b < a) ⊎ (a ≡ b))) (nat_lt a b)
    (λ _ t. inl (grind (arith, nat_tests)))
    (λ _ s. inr (by_test (λ t. nat_lt b a ≡ t → (b < a) ⊎ (a ≡ b)) (nat_lt b a) (λ _ t. inl (grind (arith, nat_tests))) (λ _ t. inr (grind (arith, nat_tests))) refl)) refl

same_end : (a b c d : ℕ) → a ≡ c → ((a < c) ⊎ ((a ≡ c) × (b < d))) ⊎ (((c < a) ⊎ ((c ≡ a) × (d < b))) ⊎ ((a ≡ c) × (b ≡ d)))
same_end a b c d end = elim (nat_cases b d) [ inl h ↦ inl (inr (end, h)) | inr h ↦ inr (elim h [ inl k ↦ inl (inr (sym end, k)) | inr k ↦ inr (end, k) ]) ]

-- a line is before, behind or at another
three_ways : (a b c d : ℕ) → ((a < c) ⊎ ((a ≡ c) × (b < d))) ⊎ (((c < a) ⊎ ((c ≡ a) × (d < b))) ⊎ ((a ≡ c) × (b ≡ d)))
three_ways a b c d = elim (nat_cases a c) [ inl h ↦ inl (inl h) | inr h ↦ elim h [ inl k ↦ inr (inl (inl k)) | inr k ↦ same_end a b c d k ] ]

one_by : (d e : SenderLineDeliveries) (ds es : List SenderLineDeliveries) → Rising (d ∷ ds) → Rising (e ∷ es) → d.names.items ≢ [] → e.names.items ≢ []
    → ((x y : ℕ) → names_under x y (d ∷ ds) ≡ names_under x y (e ∷ es)) → (((x y : ℕ) → names_under x y ds ≡ names_under x y es) → map parts_of ds ≡ map parts_of es)
    → IsEarlierLine d e ⊎ (IsEarlierLine e d ⊎ ((d.end.0 ≡ e.end.0) × (d.line.0 ≡ e.line.0))) → map parts_of (d ∷ ds) ≡ map parts_of (e ∷ es)
one_by d e ds es rd re sd se same behind (inl h) =
    absurd (no_earlier d ds (e ∷ es) rd.0 sd (h, Each-weaker (IsEarlierLine e) (IsEarlierLine d) (λ o k. before_chain d.end.0 d.line.0 e.end.0 e.line.0 o.end.0 o.line.0 h k) es re.0) same)
one_by d e ds es rd re sd se same behind (inr (inl h)) =
    absurd (no_earlier e es (d ∷ ds) re.0 se (h, Each-weaker (IsEarlierLine d) (IsEarlierLine e) (λ o k. before_chain e.end.0 e.line.0 d.end.0 d.line.0 o.end.0 o.line.0 h k) ds rd.0) (λ x y. sym (same x y)))
one_by d e ds es rd re sd se same behind (inr (inr h)) =
    let names : d.names.items ≡ e.names.items = sym (under_first d ds rd.0) ∙ same d.end.0 d.line.0 ∙ (λ i. names_under (h.0 i) (h.1 i) (e ∷ es)) ∙ under_first e es re.0 in
    let rest = behind (same_behind d e ds es h.0 h.1 rd.0 re.0 same) in
    (λ i. (record { 0 = h.0 i }, record { 0 = h.1 i }, names i) ∷ rest i)

-- two lists that rise by line, in which no line is without a name, and in which the same stands under each line
one : (ds es : List SenderLineDeliveries) → Rising ds → Rising es → Each (λ d. d.names.items ≢ []) ds → Each (λ d. d.names.items ≢ []) es
    → ((x y : ℕ) → names_under x y ds ≡ names_under x y es) → map parts_of ds ≡ map parts_of es
one [] [] rd re sd se same = refl
one (d ∷ ds) [] rd re sd se same = absurd (no_earlier d ds [] rd.0 sd.0 tt same)
one [] (e ∷ es) rd re sd se same = absurd (no_earlier e es [] re.0 se.0 tt (λ x y. sym (same x y)))
one (d ∷ ds) (e ∷ es) rd re sd se same =
    one_by d e ds es rd re sd.0 se.0 same (one ds es rd.1 re.1 sd.1 se.1) (three_ways d.end.0 d.line.0 e.end.0 e.line.0)

pub deliveries_are_one : DeliveriesAreOne
deliveries_are_one logs lines others h k =
    one lines others (Rising-from_pairs lines h.rising) (Rising-from_pairs others k.rising)
    (recursion_from_All (λ d. d.names.items ≢ []) lines h.none_empty) (recursion_from_All (λ d. d.names.items ≢ []) others k.none_empty)
    (λ x y. h.names x y ∙ sym (k.names x y))

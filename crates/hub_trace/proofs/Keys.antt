-- The keys that the code sorts by, and what the sorts leave of each line and end.
use Rattle.std.proofs.Common.{◌≡◌, ℕ, ◌≤◌, Bool, true, false, ◌&&◌, ◌||◌, cond, List, [], ◌∷◌, map, get_or, refl, ap, sym, ◌∙◌, Bor, ◌==◌, nat_lt, arith}
use Rattle.std.specs.Fn.{Called, Mut}
use Rattle.std.specs.List.{filter}
use Rattle.std.specs.List.Sorted.{IsSortedBy, IsStableBy, IsSortedByKeyClosure, IsStableByKeyClosure}
use Rattle.std.specs.Cmp.{IsTotalOrder}
use Rattle.std.specs.Cmp.Derive.{point_total}
use Rattle.std.specs.declared.cmp.Ordering.{Ordering}
use Rattle.std.specs.declared.cmp.Ordering.TheVariants.{Less, Equal, Greater}
use Rattle.std.specs.Ordering.{is_lt, nat_cmp, ordering_then}
use Rattle.std.proofs.lemmas.Bool.Decides.{nat_tests}
use Rattle.std.proofs.lemmas.Cmp.{tied_itself, nat_cmp_total, on_total, then_total}
use Rattle.std.proofs.lemmas.Fn.{always_returns_same}
use Rattle.std.proofs.lemmas.List.Sorted.{ranks_by, sorted_far}
use Rattle.std.proofs.lemmas.Map.Lookups.{exact_unsigned}
use Rattle.std.proofs.lemmas.Map.Views.{exact_unsigned_eq}
use Rattle.hub_trace.specs.declared.log_entry.Delivery.{Delivery}
use Rattle.hub_trace.specs.declared.accepted.AcceptedEnvelope.{AcceptedEnvelope}
use Rattle.hub_trace.specs.declared.received.Happening.{Happening}
use Rattle.hub_trace.specs.declared.received.Incoming.{Incoming}
use Rattle.hub_trace.specs.Sorted.{inserted, sorted}
use Rattle.hub_trace.specs.Accepted.{is_of, name_cmp}
use Rattle.hub_trace.specs.Got.{EndEvent, Receipt, stretch_cmp}
use Rattle.hub_trace.specs.Views.{delivery_of, end_event_of, receipt_of, accepted_in, got_among, end_events_in, receipts_in, RisesByLine, RisesByEnd}
use Rattle.hub_trace.proofs.Cases.{by_test, then_equal, then_lt}
use Rattle.hub_trace.proofs.Order.{arranged, map-sorted, filter-map}

-- what a stable sort by a key says, where each call of the closure gives the key
pub sort_says : {X K F : Type 0} {g : Mut F (Bor X × Unit {0}) K} {f : F} (key : X → K) (R : K → K → Ordering) (xs ys : List X)
    → IsSortedByKeyClosure g R f ys → IsStableByKeyClosure g R f xs ys
    → ((a : Bor X × Unit {0}) (r : K) (f' : F) → Called g f a r f' → (r ≡ key a.0.now) × (f' ≡ f))
    → IsSortedBy (λ x y. is_lt (R (key x) (key y))) ys × IsStableBy (λ x y. is_lt (R (key x) (key y))) xs ys
sort_says {g = g} {f = f} key R xs ys up stable h =
    let computes = always_returns_same g (λ a r. r ≡ key a.0.now) f h in
    (up key computes, stable key computes)

and_true : (a b : Bool) → (a && b) ≡ true → (a ≡ true) × (b ≡ true)
and_true true true h = (refl, refl)
and_true true false h = cc
and_true false b h = cc

-- two numbers that equal a third compare as equal
same_number : (a b e : ℕ) → (a == e) ≡ true → (b == e) ≡ true → nat_cmp a b ≡ Equal
same_number a b e p q =
    let x = exact_unsigned_eq a e p in let y = exact_unsigned_eq b e q in
    (λ i. nat_cmp (x i) (y i)) ∙ tied_itself nat_cmp_total e

same_test : (a b e : ℕ) → nat_cmp a b ≡ Equal → (a == e) ≡ true → (b == e) ≡ true
same_test a b e same h = ap (λ x. x == e) (sym (exact_unsigned a b same)) ∙ h

-- by end, line, epoch and number
abbrev pub put_key : AcceptedEnvelope → ℕ × ℕ × ℕ × ℕ
put_key a = (a.posted.end.0, a.posted.line.0, a.posted.epoch, a.posted.number)

abbrev pub put_cmp : (ℕ × ℕ × ℕ × ℕ) → (ℕ × ℕ × ℕ × ℕ) → Ordering
put_cmp x y = ordering_then (ordering_then (ordering_then (nat_cmp x.0 y.0) (nat_cmp x.1 y.1)) (nat_cmp x.2 y.2)) (nat_cmp x.3 y.3)

put_total : IsTotalOrder put_cmp
put_total = then_total (then_total (then_total (on_total (λ k. k.0) nat_cmp_total) (on_total (λ k. k.1) nat_cmp_total)) (on_total (λ k. k.2) nat_cmp_total)) (on_total (λ k. k.3) nat_cmp_total)

name_total : IsTotalOrder name_cmp
name_total = then_total (on_total (λ d. d.posted.epoch) nat_cmp_total) (on_total (λ d. d.posted.number) nat_cmp_total)

pub accepted_sorted : (xs ys : List AcceptedEnvelope) → IsSortedBy (λ x y. is_lt (put_cmp (put_key x) (put_key y))) ys → IsStableBy (λ x y. is_lt (put_cmp (put_key x) (put_key y))) xs ys
    → (puts : List Delivery) → map delivery_of xs ≡ puts → (end line : ℕ) → accepted_in ys end line ≡ sorted name_cmp (filter (λ d. is_of end line d.posted) puts)
accepted_sorted xs ys up stable puts from end line =
    ap (map delivery_of) (arranged (on_total put_key put_total) (on_total delivery_of name_total) (λ a. is_of end line a.posted)
    (λ x y p q. let s = and_true _ _ p in let t = and_true _ _ q in
    (λ i. ordering_then (ordering_then (ordering_then (same_number x.posted.end.0 y.posted.end.0 end s.0 t.0 i) (same_number x.posted.line.0 y.posted.line.0 line s.1 t.1 i)) (nat_cmp x.posted.epoch y.posted.epoch)) (nat_cmp x.posted.number y.posted.number)))
    (λ x y p e. let s = and_true _ _ p in let k = then_equal _ _ (then_equal _ _ (then_equal _ _ e).0).0 in
    (λ i. same_test x.posted.end.0 y.posted.end.0 end k.0 s.0 i && same_test x.posted.line.0 y.posted.line.0 line k.1 s.1 i))
    xs ys up stable)
    ∙ map-sorted delivery_of name_cmp (filter (λ a. is_of end line a.posted) xs)
    ∙ ap (sorted name_cmp) (sym (filter-map delivery_of (λ d. is_of end line d.posted) xs) ∙ ap (filter (λ d. is_of end line d.posted)) from)

lt_cmp_by : (s t : Bool) → is_lt (cond s Less (cond t Equal Greater)) ≡ s
lt_cmp_by true t = refl
lt_cmp_by false true = refl
lt_cmp_by false false = refl

lt_cmp : (a b : ℕ) → is_lt (nat_cmp a b) ≡ nat_lt a b
lt_cmp a b = lt_cmp_by (nat_lt a b) (a == b)

first_not_less : (a b : Ordering) → is_lt (ordering_then a b) ≡ false → is_lt a ≡ false
first_not_less Less b h = cc
first_not_less Equal b h = refl
first_not_less Greater b h = refl

-- no name is of an earlier line where the keys do not fall
line_not_before : (a b c d : ℕ) → is_lt (ordering_then (nat_cmp a b) (nat_cmp c d)) ≡ false → (nat_lt a b || ((a == b) && nat_lt c d)) ≡ false
line_not_before a b c d h = ap (λ t. nat_lt a b || ((a == b) && t)) (sym (lt_cmp c d)) ∙ sym (then_lt a b (nat_cmp c d)) ∙ h

pub accepted_rise : (ys : List AcceptedEnvelope) → IsSortedBy (λ x y. is_lt (put_cmp (put_key x) (put_key y))) ys → RisesByLine (λ a. a.posted) ys
accepted_rise ys up i j d le lt =
    let x = get_or ys i d in let y = get_or ys j d in
    let h = sorted_far _ (ranks_by put_total put_key) ys up i j d le lt in
    line_not_before y.posted.end.0 x.posted.end.0 y.posted.line.0 x.posted.line.0 (first_not_less _ _ (first_not_less _ _ h))

-- by end and stretch
abbrev pub happening_key : Happening → ℕ × ℕ
happening_key h = (h.end.0, h.stretch)

abbrev pub pair_cmp : (ℕ × ℕ) → (ℕ × ℕ) → Ordering
pair_cmp x y = ordering_then (nat_cmp x.0 y.0) (nat_cmp x.1 y.1)

pair_total : IsTotalOrder pair_cmp
pair_total = then_total (on_total (λ k. k.0) nat_cmp_total) (on_total (λ k. k.1) nat_cmp_total)

stretch_total : IsTotalOrder stretch_cmp
stretch_total = on_total (λ e. e.stretch) nat_cmp_total

pub happenings_sorted : (xs ys : List Happening) → IsSortedBy (λ x y. is_lt (pair_cmp (happening_key x) (happening_key y))) ys → IsStableBy (λ x y. is_lt (pair_cmp (happening_key x) (happening_key y))) xs ys
    → (end : ℕ) (end_events : List EndEvent) → end_events_in xs end ≡ end_events → end_events_in ys end ≡ sorted stretch_cmp end_events
happenings_sorted xs ys up stable end end_events from =
    ap (map end_event_of) (arranged (on_total happening_key pair_total) (on_total end_event_of stretch_total) (λ h. h.end.0 == end)
    (λ x y p q. (λ i. ordering_then (same_number x.end.0 y.end.0 end p q i) (nat_cmp x.stretch y.stretch)))
    (λ x y p e. same_test x.end.0 y.end.0 end (then_equal _ _ e).0 p)
    xs ys up stable)
    ∙ map-sorted end_event_of stretch_cmp (filter (λ h. h.end.0 == end) xs)
    ∙ ap (sorted stretch_cmp) from

not_above : (a b : ℕ) → is_lt (nat_cmp b a) ≡ false → a ≤ b
not_above a b h = let t : nat_lt b a ≡ false = sym (lt_cmp b a) ∙ h in grind (arith, nat_tests)

pub happenings_rise : (ys : List Happening) → IsSortedBy (λ x y. is_lt (pair_cmp (happening_key x) (happening_key y))) ys → RisesByEnd ys
happenings_rise ys up i j d le lt =
    not_above (get_or ys i d).end.0 (get_or ys j d).end.0 (first_not_less _ _ (sorted_far _ (ranks_by pair_total happening_key) ys up i j d le lt))

-- by end and line
abbrev pub line_key : Incoming → ℕ × ℕ
line_key a = (a.posted.end.0, a.posted.line.0)

at_front : {X : Type 0} (x : X) (ys : List X) → inserted (λ _ _. Equal) x ys ≡ x ∷ ys
at_front x [] = refl
at_front x (y ∷ ys) = refl

nothing_moves : {X : Type 0} (xs : List X) → sorted (λ _ _. Equal) xs ≡ xs
nothing_moves [] = refl
nothing_moves (x ∷ xs) = ap (inserted (λ _ _. Equal) x) (nothing_moves xs) ∙ at_front x xs

filter_both : {X : Type 0} (p q : X → Bool) (xs : List X) → filter (λ x. p x && q x) xs ≡ filter q (filter p xs)
filter_both p q [] = refl
filter_both p q (x ∷ xs) = by_test (λ b. cond (b && q x) (x ∷ filter (λ x. p x && q x) xs) (filter (λ x. p x && q x) xs) ≡ filter q (cond b (x ∷ filter p xs) (filter p xs))) (p x)
    (λ _. (λ i. cond (q x) (x ∷ filter_both p q xs i) (filter_both p q xs i))) (λ _. filter_both p q xs)

pub arrivals_sorted : (xs ys : List Incoming) → IsSortedBy (λ x y. is_lt (pair_cmp (line_key x) (line_key y))) ys → IsStableBy (λ x y. is_lt (pair_cmp (line_key x) (line_key y))) xs ys
    → (end line : ℕ) (receipts : List Receipt) → receipts_in xs end ≡ receipts → got_among ys end line ≡ filter (λ r. r.delivery.posted.line.0 == line) receipts
arrivals_sorted xs ys up stable end line receipts from =
    ap (map receipt_of) (arranged (on_total line_key pair_total) point_total (λ a. is_of end line a.posted)
    (λ x y p q. let s = and_true _ _ p in let t = and_true _ _ q in
    (λ i. ordering_then (same_number x.posted.end.0 y.posted.end.0 end s.0 t.0 i) (same_number x.posted.line.0 y.posted.line.0 line s.1 t.1 i)))
    (λ x y p e. let s = and_true _ _ p in let k = then_equal _ _ e in
    (λ i. same_test x.posted.end.0 y.posted.end.0 end k.0 s.0 i && same_test x.posted.line.0 y.posted.line.0 line k.1 s.1 i))
    xs ys up stable ∙ nothing_moves (filter (λ a. is_of end line a.posted) xs)
    ∙ filter_both (λ a. a.posted.end.0 == end) (λ a. a.posted.line.0 == line) xs)
    ∙ sym (filter-map receipt_of (λ r. r.delivery.posted.line.0 == line) (filter (λ a. a.posted.end.0 == end) xs))
    ∙ ap (filter (λ r. r.delivery.posted.line.0 == line)) from

pub arrivals_rise : (ys : List Incoming) → IsSortedBy (λ x y. is_lt (pair_cmp (line_key x) (line_key y))) ys → RisesByLine (λ a. a.posted) ys
arrivals_rise ys up i j d le lt =
    let x = get_or ys i d in let y = get_or ys j d in
    line_not_before y.posted.end.0 x.posted.end.0 y.posted.line.0 x.posted.line.0 (sorted_far _ (ranks_by pair_total line_key) ys up i j d le lt)

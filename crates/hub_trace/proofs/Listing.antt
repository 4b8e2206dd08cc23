-- Lines that were told, and the arrivals that are left.
use Rattle.std.proofs.Common.{◌≡◌, ◌≢◌, ℕ, ◌<◌, ◌+◌, ◌⊎◌, inl, inr, Bool, true, false, ◌&&◌, ◌||◌, cond, List, [], ◌∷◌, ◌++◌, map, length, length-drop, get_or, drop, refl, ap, sym, ◌∙◌, subst, arith, ◌==◌, nat_lt, append_assoc, append-nil}
use Rattle.std.specs.List.{All, AllPairs, filter, flat_map, AllByRecursion as Each}
use Rattle.std.proofs.lemmas.Bool.Decides.{nat_tests}
use Rattle.std.proofs.lemmas.List.{get_or-drop, get_or_default, length-map, map-append}
use Rattle.std.proofs.lemmas.List.Concat.{flat_map-append}
use Rattle.std.proofs.lemmas.List.Elements.{All-drop, All-push, All-weaker, All-from_recursion, filter-append}
use Rattle.std.proofs.lemmas.List.Quantifiers.{all_pairs_push}
use Rattle.hub_trace.specs.declared.delivered.SenderLineDeliveries.{SenderLineDeliveries}
use Rattle.hub_trace.specs.declared.received.Incoming.{Incoming}
use Rattle.hub_trace.specs.Accepted.{is_of}
use Rattle.hub_trace.specs.Deliveries.{IsEarlierLine, names_of, names_under}
use Rattle.hub_trace.specs.Verdict.{IsLineBefore}
use Rattle.hub_trace.specs.Views.{RisesByLine, got_among, is_before, receipt_of}
use Rattle.hub_trace.proofs.Cases.{by_test}
use Rattle.hub_trace.proofs.Faults.{other_line, same_line, self_append}
use Rattle.hub_trace.proofs.Lines.{filter_all, filter_none, neither_at}
use Rattle.hub_trace.proofs.Order.{Each-passes, Each-weaker}

pub names_of-arrivals : (xs : List Incoming) → names_of (map receipt_of xs) ≡ map (λ a. a.posted) xs
names_of-arrivals [] = refl
names_of-arrivals (a ∷ xs) = ap (λ l. a.posted ∷ l) (names_of-arrivals xs)

-- the names of a cut list
got_names-append : (xs ys : List Incoming) (x y : ℕ) → names_of (got_among (xs ++ ys) x y) ≡ names_of (got_among xs x y) ++ names_of (got_among ys x y)
got_names-append xs ys x y =
    let p = λ (a : Incoming). is_of x y a.posted in
    ap (λ l. names_of (map receipt_of l)) (filter-append p xs ys)
    ∙ ap names_of (map-append receipt_of (filter p xs) (filter p ys))
    ∙ map-append (λ r. r.delivery.posted) (map receipt_of (filter p xs)) (map receipt_of (filter p ys))

names_under-push : (x y : ℕ) (lines : List SenderLineDeliveries) (d : SenderLineDeliveries) → names_under x y (lines ++ d ∷ []) ≡ names_under x y lines ++ names_under x y (d ∷ [])
names_under-push x y lines d =
    let p = λ (e : SenderLineDeliveries). (e.end.0 == x) && (e.line.0 == y) in
    ap (flat_map (λ e. e.names.items)) (filter-append p lines (d ∷ [])) ∙ flat_map-append (λ e. e.names.items) (filter p lines) (filter p (d ∷ []))

-- arrivals of one line, and that line with their names, tell the same
told_of_line : (front : List Incoming) (d : SenderLineDeliveries) → Each (λ a. is_of d.end.0 d.line.0 a.posted ≡ true) front → d.names.items ≡ names_of (map receipt_of front)
    → (x y : ℕ) → names_under x y (d ∷ []) ≡ names_of (got_among front x y)
told_of_line front d at names x y =
    by_test (λ b. ((d.end.0 == x) && (d.line.0 == y)) ≡ b → flat_map (λ e. e.names.items) (cond b (d ∷ []) []) ≡ names_of (got_among front x y)) ((d.end.0 == x) && (d.line.0 == y))
    (λ _ t. let same = same_line d.end.0 d.line.0 x y t in
    let here : Each (λ a. is_of x y a.posted ≡ true) front = subst (λ (p : ℕ × ℕ). Each (λ a. is_of p.0 p.1 a.posted ≡ true) front) (λ i. (same.0 i, same.1 i)) at in
    append-nil d.names.items ∙ names ∙ ap (λ l. names_of (map receipt_of l)) (sym (filter_all (λ a. is_of x y a.posted) front here)))
    (λ _ t. let none = Each-weaker (λ a. is_of d.end.0 d.line.0 a.posted ≡ true) (λ a. is_of x y a.posted ≡ false) (λ a h. other_line a.posted.end.0 a.posted.line.0 d.end.0 d.line.0 x y h t) front at in
    ap (λ l. names_of (map receipt_of l)) (sym (filter_none (λ a. is_of x y a.posted) front none)))
    refl

-- the front of the rest is one line, and is told
pub told_more : (lines : List SenderLineDeliveries) (rest front after : List Incoming) (d : SenderLineDeliveries)
    → rest ≡ front ++ after → front ≡ filter (λ a. is_of d.end.0 d.line.0 a.posted) rest → d.names.items ≡ names_of (map receipt_of front)
    → (x y : ℕ) → names_under x y (lines ++ d ∷ []) ++ names_of (got_among after x y) ≡ names_under x y lines ++ names_of (got_among rest x y)
told_more lines rest front after d cut picked names x y =
    let at : Each (λ a. is_of d.end.0 d.line.0 a.posted ≡ true) front = subst (Each (λ a. is_of d.end.0 d.line.0 a.posted ≡ true)) (sym picked) (Each-passes (λ a. is_of d.end.0 d.line.0 a.posted) rest) in
    ap (λ l. l ++ names_of (got_among after x y)) (names_under-push x y lines d ∙ ap (λ l. names_under x y lines ++ l) (told_of_line front d at names x y))
    ∙ append_assoc (names_under x y lines) (names_of (got_among front x y)) (names_of (got_among after x y))
    ∙ ap (λ l. names_under x y lines ++ l) (sym (got_names-append front after x y) ∙ ap (λ l. names_of (got_among l x y)) (sym cut))

none_passes : {X : Type 0} (p : X → Bool) (xs : List X) → filter p xs ≡ [] → Each (λ x. p x ≡ false) xs
none_passes p [] h = tt
none_passes p (x ∷ xs) h = by_test (λ b. p x ≡ b → cond b (x ∷ filter p xs) (filter p xs) ≡ [] → Each (λ x. p x ≡ false) (x ∷ xs)) (p x) (λ _ _ e. cc) (λ _ t e. (t, none_passes p xs e)) refl h

line_before : (a b e l : ℕ) → (nat_lt e a || ((a == e) && nat_lt l b)) ≡ true → (e < a) ⊎ ((e ≡ a) × (l < b))
line_before a b e l h = by_test (λ t. nat_lt e a ≡ t → (e < a) ⊎ ((e ≡ a) × (l < b))) (nat_lt e a)
    (λ _ t. inl (grind (arith, nat_tests)))
    (λ _ t. inr (grind (arith, nat_tests), grind (arith, nat_tests))) refl

-- neither before a line nor of it
line_after : (a b e l : ℕ) → (nat_lt a e || ((a == e) && nat_lt b l)) ≡ false → ((a == e) && (b == l)) ≡ false → (e < a) ⊎ ((e ≡ a) × (l < b))
line_after a b e l h other = by_test (λ t. (nat_lt e a || ((a == e) && nat_lt l b)) ≡ t → (e < a) ⊎ ((e ≡ a) × (l < b))) (nat_lt e a || ((a == e) && nat_lt l b))
    (λ _ t. line_before a b e l t)
    (λ _ t. let at = neither_at a b e l h t in let no : true ≡ false = sym at ∙ other in cc) refl

-- the arrival is of a later line
abbrev pub IsLater : SenderLineDeliveries → Incoming → Type 0
IsLater d a = IsLineBefore d.end.0 d.line.0 a.posted.end.0 a.posted.line.0

-- of arrivals that rise by line all behind those of the first line are of later lines
pub rest_is_later : (rest front after : List Incoming) (n : ℕ) (first : Incoming)
    → rest ≡ front ++ after → after ≡ drop n rest → front ≡ filter (λ a. is_of first.posted.end.0 first.posted.line.0 a.posted) rest
    → 0 < length rest → first ≡ get_or rest 0 first → RisesByLine (λ a. a.posted) rest
    → All (λ a. IsLineBefore first.posted.end.0 first.posted.line.0 a.posted.end.0 a.posted.line.0) after
rest_is_later rest front after n first cut dropped picked some is rises k d lt =
    let p = λ (a : Incoming). is_of first.posted.end.0 first.posted.line.0 a.posted in
    let at_line : Each (λ a. p a ≡ true) front = subst (Each (λ a. p a ≡ true)) (sym picked) (Each-passes p rest) in
    let gone : filter p after ≡ [] = self_append front (filter p after) (picked ∙ ap (filter p) cut ∙ filter-append p front after ∙ ap (λ l. l ++ filter p after) (filter_all p front at_line)) in
    let other = All-from_recursion (λ a. p a ≡ false) after (none_passes p after gone) k d lt in
    let a = get_or after k d in
    let place : get_or rest (n + k) d ≡ a = sym (ap (λ l. get_or l k d) dropped ∙ get_or-drop n rest k d) in
    let under : n + k < length rest = omega (arith, ap length dropped, length-drop n rest) in
    let front_is : get_or rest 0 d ≡ first = get_or_default rest 0 d first some ∙ sym is in
    let not_before : is_before first.posted.end.0 first.posted.line.0 a.posted ≡ false = subst (λ (q : Incoming × Incoming). is_before q.0.posted.end.0 q.0.posted.line.0 q.1.posted ≡ false) (λ i. (front_is i, place i)) (rises 0 (n + k) d (omega arith) under) in
    line_after a.posted.end.0 a.posted.line.0 first.posted.end.0 first.posted.line.0 not_before other

pub later_more : (lines : List SenderLineDeliveries) (rest after : List Incoming) (n : ℕ) (d : SenderLineDeliveries) → after ≡ drop n rest
    → All (λ e. All (IsLater e) rest) lines → All (IsLater d) after → All (λ e. All (IsLater e) after) (lines ++ d ∷ [])
later_more lines rest after n d dropped old new =
    All-push (λ e. All (IsLater e) after) lines d
    (All-weaker (λ e. All (IsLater e) rest) (λ e. All (IsLater e) after) (λ e h. subst (All (IsLater e)) (sym dropped) (All-drop (IsLater e) n rest h)) lines old) new

-- the line of the first arrival that is left comes behind those that were told
pub rising_more : (lines : List SenderLineDeliveries) (rest : List Incoming) (d : SenderLineDeliveries) (first : Incoming) → ((e : SenderLineDeliveries) → IsLater e first → IsEarlierLine e d)
    → AllPairs IsEarlierLine lines → All (λ e. All (IsLater e) rest) lines → 0 < length rest → first ≡ get_or rest 0 first → AllPairs IsEarlierLine (lines ++ d ∷ [])
rising_more lines rest d first same rising later some is =
    all_pairs_push IsEarlierLine lines d rising (λ k e lt. same (get_or lines k e) (subst (IsLater (get_or lines k e)) (sym is) (later k e lt 0 first some)))

pub some_more : (lines : List SenderLineDeliveries) (d : SenderLineDeliveries) (front : List Incoming) → d.names.items ≡ map (λ a. a.posted) front → 0 < length front
    → All (λ e. e.names.items ≢ []) lines → All (λ e. e.names.items ≢ []) (lines ++ d ∷ [])
some_more lines d front names some all =
    All-push (λ e. e.names.items ≢ []) lines d all (λ none. let long : length (map (λ a. a.posted) front) ≡ 0 = ap length (sym names ∙ none) in
    absurd (omega (arith, length-map front (λ a. a.posted))))

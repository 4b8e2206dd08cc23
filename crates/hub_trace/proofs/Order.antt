-- Sorting: what it leaves, and that no other list is in order with the same ties.
use Rattle.std.proofs.Common.{◌≡◌, ℕ, suc, ◌+◌, Bool, true, false, not, ◌&&◌, cond, List, [], ◌∷◌, map, get_or, refl, ap, sym, ◌∙◌, subst, arith}
use Rattle.std.specs.List.{filter, AllByRecursion as Each}
use Rattle.std.specs.List.Sorted.{IsSortedBy, IsStableBy, ties}
use Rattle.std.specs.Cmp.{IsTotalOrder, IsStrictWeakOrder}
use Rattle.std.specs.declared.cmp.Ordering.{Ordering}
use Rattle.std.specs.declared.cmp.Ordering.TheVariants.{Less, Equal, Greater}
use Rattle.std.specs.Ordering.{is_lt, ordering_reverse}
use Rattle.std.proofs.lemmas.Cmp.{tied_itself}
use Rattle.std.proofs.lemmas.List.Sorted.{ranks_by, sorted_far}
use Rattle.std.proofs.lemmas.List.Elements.{recursion_from_All}
use Rattle.hub_trace.specs.Sorted.{inserted, sorted}
use Rattle.hub_trace.proofs.Cases.{by_test, neither, kept, dropped, swap_kept, strip}

abbrev pub Before : {X : Type 0} → (X → X → Ordering) → X → X → Bool
Before R x y = is_lt (R x y)

abbrev pub Rises : {X : Type 0} → (X → X → Ordering) → List X → Type 0
Rises R [] = Unit {0}
Rises R (x ∷ xs) = Each (λ y. Before R y x ≡ false) xs × Rises R xs

pub Each-weaker : {X : Type 0} (P Q : X → Type 0) → ((x : X) → P x → Q x) → (xs : List X) → Each P xs → Each Q xs
Each-weaker P Q f [] h = tt
Each-weaker P Q f (x ∷ xs) h = (f x h.0, Each-weaker P Q f xs h.1)

pub Each-filter : {X : Type 0} (p : X → Bool) (P : X → Type 0) (xs : List X) → Each P xs → Each P (filter p xs)
Each-filter p P [] h = tt
Each-filter p P (x ∷ xs) h = by_test (λ b. Each P (cond b (x ∷ filter p xs) (filter p xs))) (p x) (λ _. (h.0, Each-filter p P xs h.1)) (λ _. Each-filter p P xs h.1)

pub Each-passes : {X : Type 0} (p : X → Bool) (xs : List X) → Each (λ x. p x ≡ true) (filter p xs)
Each-passes p [] = tt
Each-passes p (x ∷ xs) = by_test (λ b. Each (λ y. p y ≡ true) (cond b (x ∷ filter p xs) (filter p xs))) (p x) (λ e. (e, Each-passes p xs)) (λ _. Each-passes p xs)

Each-inserted : {X : Type 0} (R : X → X → Ordering) (P : X → Type 0) (x : X) (xs : List X) → P x → Each P xs → Each P (inserted R x xs)
Each-inserted R P x [] h hs = (h, tt)
Each-inserted R P x (y ∷ ys) h hs =
    by_test (λ b. Each P (cond b (y ∷ inserted R x ys) (x ∷ y ∷ ys))) (is_lt (R y x)) (λ _. (hs.0, Each-inserted R P x ys h hs.1)) (λ _. (h, hs))

pub Each-sorted : {X : Type 0} (R : X → X → Ordering) (P : X → Type 0) (xs : List X) → Each P xs → Each P (sorted R xs)
Each-sorted R P [] h = tt
Each-sorted R P (x ∷ xs) h = Each-inserted R P x (sorted R xs) h.0 (Each-sorted R P xs h.1)

pub Rises-from_sorted : {X : Type 0} {R : X → X → Ordering} (o : IsTotalOrder R) (xs : List X) → IsSortedBy (Before R) xs → Rises R xs
Rises-from_sorted o [] up = tt
Rises-from_sorted {X} {R} o (x ∷ xs) up = (
  recursion_from_All (λ y. Before R y x ≡ false) xs (λ k d h. sorted_far (Before R) (ranks_by o (λ a. a)) (x ∷ xs) up 0 (suc k) d (omega arith) (omega arith)),
  Rises-from_sorted o xs (λ k d lo hi.
      let next : suc k + 1 ≡ suc (k + 1) = omega arith in
      subst (λ (n : ℕ). Before R (get_or (x ∷ xs) n d) (get_or xs k d) ≡ false) next (up (suc k) d (omega arith) (omega arith))),
)

by_order : (a b : Ordering) → a ≡ ordering_reverse b → (is_lt a ≡ false) × (is_lt b ≡ false) → a ≡ Equal
by_order Less b e h = cc
by_order Equal b e h = refl
by_order Greater Less e h = cc
by_order Greater Equal e h = cc
by_order Greater Greater e h = cc

module _ {X : Type 0} {R : X → X → Ordering} (o : IsTotalOrder R) where
  rank : IsStrictWeakOrder (Before R)
  rank = ranks_by o (λ a. a)

  abbrev Tie : X → X → Bool
  Tie = ties (Before R)

  not_below_itself : (x : X) → Before R x x ≡ false
  not_below_itself x = ap is_lt (tied_itself o x)

  ties_itself : (x : X) → Tie x x ≡ true
  ties_itself x = ap (λ b. not b && not b) (not_below_itself x)

  pub ties_are_equal : (x y : X) → Tie x y ≡ true → R x y ≡ Equal
  ties_are_equal x y h = by_order (R x y) (R y x) (o.antisymm x y) (neither (Before R x y) (Before R y x) h)

  Rises-inserted : (x : X) (xs : List X) → Rises R xs → Rises R (inserted R x xs)
  Rises-inserted x [] h = (tt, tt)
  Rises-inserted x (y ∷ ys) h = by_test (λ b. Rises R (cond b (y ∷ inserted R x ys) (x ∷ y ∷ ys))) (is_lt (R y x))
      (λ below. (Each-inserted R (λ z. Before R z y ≡ false) x ys (rank.one_way y x below) h.0, Rises-inserted x ys h.1))
      (λ not_below. ((not_below, Each-weaker (λ z. Before R z y ≡ false) (λ z. Before R z x ≡ false) (λ z k. rank.chain z y x k not_below) ys h.0), h))

  pub Rises-sorted : (xs : List X) → Rises R (sorted R xs)
  Rises-sorted [] = tt
  Rises-sorted (x ∷ xs) = Rises-inserted x (sorted R xs) (Rises-sorted xs)

  ties-inserted : (w x : X) (xs : List X) → filter (Tie w) (inserted R x xs) ≡ filter (Tie w) (x ∷ xs)
  ties-inserted w x [] = refl
  ties-inserted w x (y ∷ ys) = by_test (λ b. filter (Tie w) (cond b (y ∷ inserted R x ys) (x ∷ y ∷ ys)) ≡ filter (Tie w) (x ∷ y ∷ ys)) (is_lt (R y x))
      (λ below. swap_kept (Tie w y) (Tie w x) x y (filter (Tie w) (inserted R x ys)) (filter (Tie w) ys)
      (λ s t. let a = neither (Before R w y) (Before R y w) s in let b = neither (Before R w x) (Before R x w) t in
      let far = rank.chain y w x a.1 b.0 in cc)
      (ties-inserted w x ys))
      (λ _. refl)

  pub ties-sorted : (w : X) (xs : List X) → filter (Tie w) (sorted R xs) ≡ filter (Tie w) xs
  ties-sorted w [] = refl
  ties-sorted w (x ∷ xs) = ties-inserted w x (sorted R xs) ∙ ap (λ l. cond (Tie w x) (x ∷ l) l) (ties-sorted w xs)

  -- lists in order that keep the same of each tie are one
  pub unique : (P : X → Type 0) (ys zs : List X) → Each P ys → Each P zs → Rises R ys → Rises R zs → ((x : X) → P x → filter (Tie x) ys ≡ filter (Tie x) zs) → ys ≡ zs
  unique P [] [] py pz ry rz same = refl
  unique P [] (z ∷ zs) py pz ry rz same = let e = same z pz.0 ∙ kept (Tie z z) z (filter (Tie z) zs) (ties_itself z) in cc
  unique P (y ∷ ys) [] py pz ry rz same = let e = sym (same y py.0) ∙ kept (Tie y y) y (filter (Tie y) ys) (ties_itself y) in cc
  unique P (y ∷ ys) (z ∷ zs) py pz ry rz same =
      let at_y = sym (kept (Tie y y) y (filter (Tie y) ys) (ties_itself y)) ∙ same y py.0 in
      let at_z = sym (kept (Tie z z) z (filter (Tie z) zs) (ties_itself z)) ∙ sym (same z pz.0) in
      let y_on_z : Each (λ w. Before R w z ≡ false) (y ∷ filter (Tie y) ys) = subst (Each (λ w. Before R w z ≡ false)) (sym at_y) (Each-filter (Tie y) (λ w. Before R w z ≡ false) (z ∷ zs) (not_below_itself z, rz.0)) in
      let z_on_y : Each (λ w. Before R w y ≡ false) (z ∷ filter (Tie z) zs) = subst (Each (λ w. Before R w y ≡ false)) (sym at_z) (Each-filter (Tie z) (λ w. Before R w y ≡ false) (y ∷ ys) (not_below_itself y, ry.0)) in
      let tie : Tie y z ≡ true = (λ i. not (y_on_z.0 i) && not (z_on_y.0 i)) in
      let heads = at_y ∙ kept (Tie y z) z (filter (Tie y) zs) tie in
      let one : y ≡ z = cc in
      let rest : ys ≡ zs = unique P ys zs py.1 pz.1 ry.1 rz.1 (λ x px. strip (Tie x y) y (filter (Tie x) ys) (filter (Tie x) zs)
      (same x px ∙ ap (λ w. cond (Tie x w) (w ∷ filter (Tie x) zs) (filter (Tie x) zs)) (sym one))) in
      cc

-- p picks elements that R and S order alike, and all that R has tied with one of them
module _ {X : Type 0} {R S : X → X → Ordering} (o : IsTotalOrder R) (u : IsTotalOrder S) (p : X → Bool)
    (agree : (x y : X) → p x ≡ true → p y ≡ true → R x y ≡ S x y) (alone : (x y : X) → p x ≡ true → R x y ≡ Equal → p y ≡ true) where
  Each-agree : (x : X) → p x ≡ true → (xs : List X) → Each (λ y. Before R y x ≡ false) xs → Each (λ y. Before S y x ≡ false) (filter p xs)
  Each-agree x px [] h = tt
  Each-agree x px (y ∷ ys) h = by_test (λ b. Each (λ w. Before S w x ≡ false) (cond b (y ∷ filter p ys) (filter p ys))) (p y)
      (λ py. (sym (ap is_lt (agree y x py px)) ∙ h.0, Each-agree x px ys h.1))
      (λ _. Each-agree x px ys h.1)

  Rises-agree : (xs : List X) → Rises R xs → Rises S (filter p xs)
  Rises-agree [] h = tt
  Rises-agree (x ∷ xs) h = by_test (λ b. Rises S (cond b (x ∷ filter p xs) (filter p xs))) (p x)
      (λ px. (Each-agree x px xs h.0, Rises-agree xs h.1))
      (λ _. Rises-agree xs h.1)

  ties-agree : (x : X) → p x ≡ true → (xs : List X) → filter (ties (Before S) x) (filter p xs) ≡ filter (ties (Before R) x) xs
  ties-agree x px [] = refl
  ties-agree x px (y ∷ ys) = by_test (λ b. filter (ties (Before S) x) (cond b (y ∷ filter p ys) (filter p ys)) ≡ filter (ties (Before R) x) (y ∷ ys)) (p y)
      (λ py. let alike : ties (Before S) x y ≡ ties (Before R) x y = (λ i. not (is_lt (sym (agree x y px py) i)) && not (is_lt (sym (agree y x py px) i))) in
      (λ i. cond (alike i) (y ∷ ties-agree x px ys i) (ties-agree x px ys i)))
      (λ fails. ties-agree x px ys ∙ sym (dropped (ties (Before R) x y) y (filter (ties (Before R) x) ys)
      (by_test (λ b. ties (Before R) x y ≡ b → b ≡ false) (ties (Before R) x y) (λ _ t. absurd (let q = alone x y px (ties_are_equal o x y t) in cc)) (λ _ _. refl) refl)))

  pub arranged : (xs ys : List X) → IsSortedBy (Before R) ys → IsStableBy (Before R) xs ys → filter p ys ≡ sorted S (filter p xs)
  arranged xs ys up stable = unique u (λ x. p x ≡ true) (filter p ys) (sorted S (filter p xs))
      (Each-passes p ys) (Each-sorted S (λ x. p x ≡ true) (filter p xs) (Each-passes p xs))
      (Rises-agree ys (Rises-from_sorted o ys up)) (Rises-sorted u (filter p xs))
      (λ x px. ties-agree x px ys ∙ stable x ∙ sym (ties-agree x px xs) ∙ sym (ties-sorted u x (filter p xs)))

pub map-inserted : {X Y : Type 0} (f : X → Y) (S : Y → Y → Ordering) (x : X) (xs : List X) → map f (inserted (λ a b. S (f a) (f b)) x xs) ≡ inserted S (f x) (map f xs)
map-inserted f S x [] = refl
map-inserted f S x (y ∷ ys) = by_test (λ b. map f (cond b (y ∷ inserted (λ a b. S (f a) (f b)) x ys) (x ∷ y ∷ ys)) ≡ cond b (f y ∷ inserted S (f x) (map f ys)) (f x ∷ f y ∷ map f ys)) (is_lt (S (f y) (f x)))
    (λ _. ap (λ l. f y ∷ l) (map-inserted f S x ys)) (λ _. refl)

pub map-sorted : {X Y : Type 0} (f : X → Y) (S : Y → Y → Ordering) (xs : List X) → map f (sorted (λ a b. S (f a) (f b)) xs) ≡ sorted S (map f xs)
map-sorted f S [] = refl
map-sorted f S (x ∷ xs) = map-inserted f S x (sorted (λ a b. S (f a) (f b)) xs) ∙ ap (inserted S (f x)) (map-sorted f S xs)

pub filter-map : {X Y : Type 0} (f : X → Y) (p : Y → Bool) (xs : List X) → filter p (map f xs) ≡ map f (filter (λ x. p (f x)) xs)
filter-map f p [] = refl
filter-map f p (x ∷ xs) = by_test (λ b. cond b (f x ∷ filter p (map f xs)) (filter p (map f xs)) ≡ map f (cond b (x ∷ filter (λ x. p (f x)) xs) (filter (λ x. p (f x)) xs))) (p (f x))
    (λ _. ap (λ l. f x ∷ l) (filter-map f p xs)) (λ _. filter-map f p xs)

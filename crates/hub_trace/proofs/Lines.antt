-- A list that rises by line, cut at one line.
use Rattle.std.proofs.Common.{◌≡◌, ℕ, zero, suc, ◌≤◌, ◌<◌, ◌+◌, Bool, true, false, not, ◌&&◌, ◌||◌, List, [], ◌∷◌, ◌++◌, length, get_or, take, drop, refl, ap, sym, ◌∙◌, ◌==◌, nat_lt, arith, length-take, length-drop}
use Rattle.std.specs.List.{filter, AllWithin, AllByRecursion as Each}
use Rattle.std.specs.List.Sorted.{IsPartitionedBy, IsPartitionPoint}
use Rattle.std.proofs.lemmas.Bool.Decides.{nat_tests}
use Rattle.std.proofs.lemmas.List.{get_or-take, get_or-drop, take-append-drop, append-nil}
use Rattle.std.proofs.lemmas.List.Elements.{recursion_from_All, filter-append}
use Rattle.hub_envelope.specs.declared.posted.Posted.{Posted}
use Rattle.hub_trace.specs.Accepted.{is_of}
use Rattle.hub_trace.specs.Views.{RisesByLine, is_before, is_after}
use Rattle.hub_trace.proofs.Cases.{by_test, kept, dropped}

pub filter_all : {X : Type 0} (p : X → Bool) (xs : List X) → Each (λ x. p x ≡ true) xs → filter p xs ≡ xs
filter_all p [] h = refl
filter_all p (x ∷ xs) h = kept (p x) x (filter p xs) h.0 ∙ ap (λ l. x ∷ l) (filter_all p xs h.1)

pub filter_none : {X : Type 0} (p : X → Bool) (xs : List X) → Each (λ x. p x ≡ false) xs → filter p xs ≡ []
filter_none p [] h = refl
filter_none p (x ∷ xs) h = dropped (p x) x (filter p xs) h.0 ∙ filter_none p xs h.1

pub front_each : {X : Type 0} (P : X → Type 0) (xs : List X) (n : ℕ) → n ≤ length xs → AllWithin P xs 0 n → Each P (take n xs)
front_each {X} P xs n le h = recursion_from_All P (take n xs) (λ k d lt.
    let under : k < n = omega (arith, length-take n xs) in
    rw (get_or-take n xs k d under) (h k d (omega arith) under))

pub rest_each : {X : Type 0} (P : X → Type 0) (xs : List X) (n : ℕ) → n ≤ length xs → AllWithin P xs n (length xs) → Each P (drop n xs)
rest_each {X} P xs n le h = recursion_from_All P (drop n xs) (λ k d lt.
    rw (get_or-drop n xs k d) (h (n + k) d (omega arith) (omega (arith, length-drop n xs))))

not_true : (b : Bool) → not b ≡ true → b ≡ false
not_true true h = cc
not_true false h = refl

not_false : (b : Bool) → not b ≡ false → b ≡ true
not_false true h = refl
not_false false h = cc

-- a line is before, at or after another
before_not_at : (a b e l : ℕ) → (nat_lt a e || ((a == e) && nat_lt b l)) ≡ true → ((a == e) && (b == l)) ≡ false
before_not_at a b e l h = grind (arith, nat_tests)

after_not_at : (a b e l : ℕ) → (nat_lt e a || ((a == e) && nat_lt l b)) ≡ true → ((a == e) && (b == l)) ≡ false
after_not_at a b e l h = grind (arith, nat_tests)

pub neither_at : (a b e l : ℕ) → (nat_lt a e || ((a == e) && nat_lt b l)) ≡ false → (nat_lt e a || ((a == e) && nat_lt l b)) ≡ false → ((a == e) && (b == l)) ≡ true
neither_at a b e l h k = grind (arith, nat_tests)

after_goes_up : (a b c d e l : ℕ) → (nat_lt a c || ((a == c) && nat_lt b d)) ≡ false → (nat_lt e c || ((c == e) && nat_lt l d)) ≡ true → (nat_lt e a || ((a == e) && nat_lt l b)) ≡ true
after_goes_up a b c d e l h k = grind (arith, nat_tests)

upto_is_at : (a b e l : ℕ) → (nat_lt a e || ((a == e) && nat_lt b l)) ≡ false → not (nat_lt e a || ((a == e) && nat_lt l b)) ≡ true → ((a == e) && (b == l)) ≡ true
upto_is_at a b e l h k = neither_at a b e l h (not_true _ k)

past_not_at : (a b e l : ℕ) → not (nat_lt e a || ((a == e) && nat_lt l b)) ≡ false → ((a == e) && (b == l)) ≡ false
past_not_at a b e l h = after_not_at a b e l (not_false _ h)

upto_goes_down : (a b c d e l : ℕ) → (nat_lt a c || ((a == c) && nat_lt b d)) ≡ false → not (nat_lt e a || ((a == e) && nat_lt l b)) ≡ true → not (nat_lt e c || ((c == e) && nat_lt l d)) ≡ true
upto_goes_down a b c d e l h k = by_test (λ t. (nat_lt e c || ((c == e) && nat_lt l d)) ≡ t → not t ≡ true) (nat_lt e c || ((c == e) && nat_lt l d))
    (λ _ t. let up = after_goes_up a b c d e l h t in let no_up = not_true _ k in cc) (λ _ _. refl) refl

-- not before c d, which is before e l or at it
before_goes_down : (a b c d e l : ℕ) → (nat_lt a c || ((a == c) && nat_lt b d)) ≡ false → (nat_lt a e || ((a == e) && nat_lt b l)) ≡ true → (nat_lt c e || ((c == e) && nat_lt d l)) ≡ true
before_goes_down a b c d e l h k = grind (arith, nat_tests)

at_not_before : (a b c d e l : ℕ) → ((c == e) && (d == l)) ≡ true → (nat_lt a c || ((a == c) && nat_lt b d)) ≡ false → (nat_lt a e || ((a == e) && nat_lt b l)) ≡ false
at_not_before a b c d e l h k = grind (arith, nat_tests)

at_not_after : (a b e l : ℕ) → ((a == e) && (b == l)) ≡ true → (nat_lt e a || ((a == e) && nat_lt l b)) ≡ false
at_not_after a b e l h = grind (arith, nat_tests)

module _ {X : Type 0} (posted : X → Posted) where
  pub before_parted : (xs : List X) (end line : ℕ) → RisesByLine posted xs → IsPartitionedBy (λ x. is_before end line (posted x)) xs
  before_parted xs end line rises i j d le lt h =
      let x = posted (get_or xs i d) in let y = posted (get_or xs j d) in
      before_goes_down y.end.0 y.line.0 x.end.0 x.line.0 end line (rises i j d le lt) h

  pub upto_parted : (xs : List X) (end line : ℕ) → RisesByLine posted xs → IsPartitionedBy (λ x. not (is_after end line (posted x))) xs
  upto_parted xs end line rises i j d le lt h =
      let x = posted (get_or xs i d) in let y = posted (get_or xs j d) in
      upto_goes_down y.end.0 y.line.0 x.end.0 x.line.0 end line (rises i j d le lt) h

  pub RisesByLine-drop : (xs : List X) (n : ℕ) → n ≤ length xs → RisesByLine posted xs → RisesByLine posted (drop n xs)
  RisesByLine-drop xs n le rises i j d ij lt =
      let a = get_or-drop n xs i d in let b = get_or-drop n xs j d in
      (λ k. is_before (posted (a k)).end.0 (posted (a k)).line.0 (posted (b k))) ∙ rises (n + i) (n + j) d (omega arith) (omega (arith, length-drop n xs))

  -- where nothing is before the line, and the first m and no others are at it or before
  pub front_cut : (xs : List X) (end line m : ℕ) → m ≤ length xs → AllWithin (λ x. is_before end line (posted x) ≡ false) xs 0 (length xs)
      → IsPartitionPoint (λ x. not (is_after end line (posted x)) ≡ true) (λ x. not (is_after end line (posted x)) ≡ false) xs m
      → take m xs ≡ filter (λ x. is_of end line (posted x)) xs
  front_cut xs end line m le none parts =
      let p = λ (x : X). is_of end line (posted x) in
      let front : Each (λ x. p x ≡ true) (take m xs) = front_each (λ x. p x ≡ true) xs m le (λ k d lo hi. let y = posted (get_or xs k d) in
      upto_is_at y.end.0 y.line.0 end line (none k d lo (omega arith)) (parts.0 k d lo hi)) in
      let rest : Each (λ x. p x ≡ false) (drop m xs) = rest_each (λ x. p x ≡ false) xs m le (λ k d lo hi. let y = posted (get_or xs k d) in
      past_not_at y.end.0 y.line.0 end line (parts.1 k d lo hi)) in
      sym (ap (filter p) (sym (take-append-drop m xs)) ∙ filter-append p (take m xs) (drop m xs)
      ∙ (λ i. filter_all p (take m xs) front i ++ filter_none p (drop m xs) rest i) ∙ append-nil (take m xs))

  -- where the first n and no others are before the line, and the first m of the rest and no others are at it
  pub cut : (xs : List X) (end line n m : ℕ) → n ≤ length xs
      → IsPartitionPoint (λ x. is_before end line (posted x) ≡ true) (λ x. is_before end line (posted x) ≡ false) xs n
      → m ≤ length (drop n xs)
      → IsPartitionPoint (λ x. not (is_after end line (posted x)) ≡ true) (λ x. not (is_after end line (posted x)) ≡ false) (drop n xs) m
      → take m (drop n xs) ≡ filter (λ x. is_of end line (posted x)) xs
  cut xs end line n m le before m_le parts =
      let p = λ (x : X). is_of end line (posted x) in
      let gone : Each (λ x. p x ≡ false) (take n xs) = front_each (λ x. p x ≡ false) xs n le (λ k d lo hi. let y = posted (get_or xs k d) in
      before_not_at y.end.0 y.line.0 end line (before.0 k d lo hi)) in
      front_cut (drop n xs) end line m m_le (λ k d lo hi. rw (get_or-drop n xs k d) (before.1 (n + k) d (omega arith) (omega (arith, length-drop n xs)))) parts
      ∙ sym (ap (filter p) (sym (take-append-drop n xs)) ∙ filter-append p (take n xs) (drop n xs) ∙ ap (λ l. l ++ filter p (drop n xs)) (filter_none p (take n xs) gone))

  -- where the first is of the line, nothing is before it
  pub front_not_before : (xs : List X) (end line : ℕ) → RisesByLine posted xs → ((d : X) → is_of end line (posted (get_or xs 0 d)) ≡ true) → AllWithin (λ x. is_before end line (posted x) ≡ false) xs 0 (length xs)
  front_not_before xs end line rises first k d lo hi =
      let x = posted (get_or xs 0 d) in let y = posted (get_or xs k d) in
      at_not_before y.end.0 y.line.0 x.end.0 x.line.0 end line (first d) (rises 0 k d lo hi)

  -- and something is of it
  pub front_some : (xs : List X) (end line m : ℕ) → 0 < length xs → ((d : X) → is_of end line (posted (get_or xs 0 d)) ≡ true)
      → IsPartitionPoint (λ x. not (is_after end line (posted x)) ≡ true) (λ x. not (is_after end line (posted x)) ≡ false) xs m → 0 < m
  front_some (x ∷ xs) end line zero some first parts =
      let after = not_false _ (parts.1 0 x (omega arith) some) in
      let not_after = at_not_after (posted x).end.0 (posted x).line.0 end line (first x) in
      cc
  front_some xs end line (suc m) some first parts = omega arith
  front_some [] end line zero some first parts = absurd (omega arith)

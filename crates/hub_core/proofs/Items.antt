-- Lists of ends, agents, lines and envelopes: what a write leaves at each number, or behind a further item.
use Rattle.std.proofs.Common.{get_or, ne_eqb, ◌≡◌, ℕ, ◌<◌, ◌+◌, true, false, eqb, List, [], ◌∷◌, ◌++◌, length, length-set, set, Option, Some, zero, suc, ◌≤◌, None, refl, sym, ap, subst, ◌∙◌, inl, inr, arith, rules, Bool, length-append, ◌||◌, ⊎_elim, cond, ◌≢◌, ◌⊎◌, map}
use Rattle.hub_core.proofs.Words.{CoreState, End, change_at, set_at, nat_tests, slice_get, AllByRecursion, slice_get_cases, Phase, Out, is_out, false≢true, cases_eq, slice_get_past, cases_lt, get_or-set_same, slice_get-get_or, get_or_from_slice_get, set-get_or, option_map, slice_get-map, slice_get_within}

pub slice_get-set_same : {A : Type 0} (xs : List A) (i : ℕ) (x : A) → i < length xs → slice_get (set xs i x) i ≡ Some x
slice_get-set_same xs i x h = slice_get-get_or (set xs i x) i x (subst (λ n. i < n) (sym (length-set xs i x)) h) ∙ ap Some (get_or-set_same xs i x x h)

pub slice_get-set_other : {A : Type 0} (xs : List A) (i j : ℕ) (x : A) → (j ≡ i → ⊥) → slice_get (set xs i x) j ≡ slice_get xs j
slice_get-set_other (y ∷ ys) zero zero x h = absurd (h refl)
slice_get-set_other (y ∷ ys) (suc i) (suc j) x h = slice_get-set_other ys i j x (λ e. h (ap suc e))
slice_get-set_other _ _ _ x h = refl

-- what is there, written again, changes nothing
pub set_again : {A : Type 0} (xs : List A) (i : ℕ) (x : A) → slice_get xs i ≡ Some x → set xs i x ≡ xs
set_again xs i x h = ap (set xs i) (sym (get_or_from_slice_get xs i x x h)) ∙ set-get_or xs i x

-- a core in which what was read of an end was changed in its place, or written again
pub end_set : (change : End → End) (s now : CoreState) (e : ℕ) (x : End) → s ≡ now → e < length now.ends → x ≡ get_or s.ends e x → (let c : CoreState = record s { ends = set s.ends e (change x) } in c ≡ record now { ends = change_at change e now.ends })
end_set change s now e x is low at = subst (λ (n : CoreState). e < length n.ends → (let c : CoreState = record s { ends = set s.ends e (change x) } in c ≡ record n { ends = change_at change e n.ends })) is (λ less i. record s { ends = set_at e s.ends (option_map change (sym (slice_get-get_or s.ends e x less ∙ ap Some (sym at)) i)) }) low

pub end_again : (s now : CoreState) (e : ℕ) (x : End) → s ≡ now → e < length now.ends → x ≡ get_or s.ends e x → (let c : CoreState = record s { ends = set s.ends e x } in c ≡ now)
end_again s now e x is low at = (λ i. record s { ends = set_again s.ends e x (slice_get-get_or s.ends e x (subst (λ (n : CoreState). e < length n.ends) (sym is) low) ∙ ap Some (sym at)) i }) ∙ is

pub AllByRecursion-append : {A : Type 0} (P : A → Type 0) (xs ys : List A) → AllByRecursion P xs → AllByRecursion P ys → AllByRecursion P (xs ++ ys)
AllByRecursion-append P [] ys p q = q
AllByRecursion-append P (x ∷ xs) ys p q = (p.0, AllByRecursion-append P xs ys p.1 q)

pub AllByRecursion-weaker : {A : Type 0} (P Q : A → Type 0) → ((x : A) → P x → Q x) → (xs : List A) → AllByRecursion P xs → AllByRecursion Q xs
AllByRecursion-weaker P Q f [] p = tt
AllByRecursion-weaker P Q f (x ∷ xs) p = (f x p.0, AllByRecursion-weaker P Q f xs p.1)

pub slice_get-append_front : {A : Type 0} (xs ys : List A) (i : ℕ) → i < length xs → slice_get (xs ++ ys) i ≡ slice_get xs i
slice_get-append_front [] ys i h = absurd (omega arith)
slice_get-append_front (x ∷ xs) ys zero h = refl
slice_get-append_front (x ∷ xs) ys (suc i) h = slice_get-append_front xs ys i (omega arith)

pub slice_get-append_back : {A : Type 0} (xs ys : List A) (i k : ℕ) → i ≡ length xs + k → slice_get (xs ++ ys) i ≡ slice_get ys k
slice_get-append_back [] ys i k h = let same : i ≡ k = omega arith in ap (slice_get ys) same
slice_get-append_back (x ∷ xs) ys zero k h = absurd (omega arith)
slice_get-append_back (x ∷ xs) ys (suc i) k h = slice_get-append_back xs ys i k (omega arith)

pub eqb_same : (n : ℕ) → eqb n n ≡ true
eqb_same n = search (rules, nat_tests)

-- ---- numbers beside one that they are not

pub next_up : (n m : ℕ) → n ≤ m → (m ≡ n → ⊥) → n + 1 ≤ m
next_up n m from other = grind (arith, nat_tests)

-- past a list and not right after it is past the list with one more
pub past_last : {A : Type 0} (xs : List A) (x : A) (m : ℕ) → length xs ≤ m → (m ≡ length xs → ⊥) → length (xs ++ x ∷ []) ≤ m
past_last xs x m from other = let beyond : length xs + 1 ≤ m = next_up (length xs) m from other in simp length-append (omega arith)

-- ---- each number

-- what is said of each number, after one was written
pub each_set : {A : Type 0} (P : ℕ → Option A → Type 0) (xs : List A) (i : ℕ) (x : A) → i < length xs → P i (Some x) → ((j : ℕ) → (j ≡ i → ⊥) → P j (slice_get xs j)) → (j : ℕ) → P j (slice_get (set xs i x) j)
each_set P xs i x there here others j = ⊎_elim
    (λ same. subst (λ k. P k (slice_get (set xs i x) k)) (sym same) (subst (P i) (sym (slice_get-set_same xs i x there)) here))
    (λ other. subst (P j) (sym (slice_get-set_other xs i j x other)) (others j other))
    (cases_eq j i)

-- the same, by whether it is the one that was written
pub each_changed : {A : Type 0} (P : ℕ → Bool → Option A → Type 0) (xs : List A) (i : ℕ) (x : A) → i < length xs → P i true (Some x) → ((j : ℕ) → P j false (slice_get xs j)) → (j : ℕ) → P j (eqb j i) (slice_get (set xs i x) j)
each_changed P xs i x there here others = each_set (λ j o. P j (eqb j i) o) xs i x there (subst (λ b. P i b (Some x)) (sym (eqb_same i)) here) (λ j far. subst (λ b. P j b (slice_get xs j)) (sym (ne_eqb j i far)) (others j))

-- the same of a list with one more
pub each_pushed : {A : Type 0} (P : ℕ → Bool → Option A → Type 0) (xs : List A) (x : A) → ((i : ℕ) → P i false (slice_get xs i)) → P (length xs) true (Some x) → (i : ℕ) → P i (eqb i (length xs)) (slice_get (xs ++ x ∷ []) i)
each_pushed P xs x others last i = ⊎_elim
    (λ same. subst (λ j. P j (eqb j (length xs)) (slice_get (xs ++ x ∷ []) j)) (sym same)
    (subst (λ b. P (length xs) b (slice_get (xs ++ x ∷ []) (length xs))) (sym (eqb_same (length xs))) (subst (P (length xs) true) (sym (slice_get-append_back xs (x ∷ []) (length xs) 0 (omega arith))) last)))
    (λ far. subst (λ b. P i b (slice_get (xs ++ x ∷ []) i)) (sym (ne_eqb i (length xs) far)) (subst (P i false) (still far) (others i)))
    (cases_eq i (length xs))
  where
    still : (i ≡ length xs → ⊥) → slice_get xs i ≡ slice_get (xs ++ x ∷ []) i
    still far = ⊎_elim
        (λ within. sym (slice_get-append_front xs (x ∷ []) i within))
        (λ past. slice_get_past xs i past ∙ sym (slice_get_past (xs ++ x ∷ []) i (past_last xs x i past far)))
        (cases_lt i (length xs))

-- what is inside a list is there
pub is_there : {A : Type 0} (xs : List A) (i : ℕ) → i < length xs → slice_get xs i ≡ None → ⊥
is_there xs i within none = elim (slice_get_cases xs i).1 [
  | inl p ↦ absurd (search (rules, sym p.2 ∙ none))
  | inr p ↦ absurd (let past : length xs ≤ i = p.0 in omega arith)
]

-- ---- tests

-- what holds of either holds of the one that a test chooses
pub at_test : {A : Type 0} (P : A → Type 0) (b : Bool) (x y : A) → (b ≡ true → P x) → (b ≡ false → P y) → P (cond b x y)
at_test P true x y met failed = met refl
at_test P false x y met failed = failed refl

pub or_none : (b : Bool) → b ≡ (b || false)
or_none true = refl
or_none false = refl

pub below_last : (i n : ℕ) → i < n + 1 → (i ≡ n → ⊥) → i < n
below_last i n below other = grind (arith, nat_tests)

pub is_out_of : (p : Phase) → is_out p ≡ true → p ≡ Out
is_out_of Out h = refl
is_out_of _ h = absurd (false≢true h)

-- ==== What is read from a list after a write of one item, or behind a further one.

module _ {A : Type 0} where
  pub some_is : (a b : A) → Some a ≡ Some b → a ≡ b
  some_is a b e = cc

  pub none_got : {X : Type 0} (b : A) → None ≡ Some b → X
  none_got b e = cc

  -- after a write, an item is the one written, or was there
  pub got_set : (l : List A) (i j : ℕ) (a b : A) → slice_get (set l i a) j ≡ Some b → ((j ≡ i) × (a ≡ b)) ⊎ ((j ≢ i) × (slice_get l j ≡ Some b))
  got_set [] i j a b e = none_got b e
  got_set (x ∷ xs) zero zero a b e = inl (refl, some_is a b e)
  got_set (x ∷ xs) (suc i) (suc j) a b e = ⊎_elim (λ t. inl (ap suc t.0, t.1)) (λ t. let n = t.0 in inr ((λ h. n (omega arith)), t.1)) (got_set xs i j a b e)
  got_set (x ∷ xs) _ _ a b e = inr ((λ h. omega arith), e)

  -- with one item more, an item is that one, or was there
  pub got_push : (l : List A) (j : ℕ) (a b : A) → slice_get (l ++ a ∷ []) j ≡ Some b → ((j ≡ length l) × (a ≡ b)) ⊎ (slice_get l j ≡ Some b)
  got_push [] zero a b e = inl (refl, some_is a b e)
  got_push [] (suc j) a b e = none_got b e
  got_push (x ∷ xs) zero a b e = inr e
  got_push (x ∷ xs) (suc j) a b e = ⊎_elim (λ t. inl (ap suc t.0, t.1)) (λ t. inr t) (got_push xs j a b e)

  pub got_within : (l : List A) (i : ℕ) (b : A) → slice_get l i ≡ Some b → i < length l
  got_within l i b = slice_get_within l i b

  pub got_there : (l : List A) (i : ℕ) → i < length l → (b : A) × (slice_get l i ≡ Some b)
  got_there [] i h = absurd (omega arith)
  got_there (x ∷ xs) zero h = (x, refl)
  got_there (x ∷ xs) (suc i) h = got_there xs i (omega arith)

  pub got_same : (l : List A) (i : ℕ) (a b : A) → slice_get l i ≡ Some a → slice_get l i ≡ Some b → a ≡ b
  got_same l i a b p q = cc

  pub got_same_at : (l : List A) (i j : ℕ) (a b : A) → i ≡ j → slice_get l i ≡ Some a → slice_get l j ≡ Some b → a ≡ b
  got_same_at l i j a b e p q = cc

module _ {A B : Type 0} (f : A → B) where
  pub got-map : (l : List A) (i : ℕ) (a : A) → slice_get l i ≡ Some a → slice_get (map f l) i ≡ Some (f a)
  got-map l i a e = slice_get-map f l i ∙ ap (option_map f) e

  pub got_of-map : (l : List A) (i : ℕ) (b : B) → slice_get (map f l) i ≡ Some b → (a : A) × (slice_get l i ≡ Some a) × (f a ≡ b)
  got_of-map [] i b e = none_got b e
  got_of-map (x ∷ xs) zero b e = (x, refl, some_is (f x) b e)
  got_of-map (x ∷ xs) (suc i) b e = got_of-map xs i b e

module _ {A : Type 0} where
  -- what holds of the item written and of the others holds of each
  pub at_written : (l : List A) (k : ℕ) (a : A) (P : ℕ → A → Type 0) → P k a → ((j : ℕ) (b : A) → j ≢ k → slice_get l j ≡ Some b → P j b) → (j : ℕ) (b : A) → slice_get (set l k a) j ≡ Some b → P j b
  at_written l k a P here other j b there = ⊎_elim
      (λ t. subst (λ i. P i b) (sym t.0) (subst (P k) t.1 here))
      (λ t. other j b t.0 t.1)
      (got_set l k j a b there)

  -- what holds of each item, and of one item more
  pub at_pushed : (l : List A) (a : A) (P : ℕ → A → Type 0) → ((j : ℕ) (b : A) → slice_get l j ≡ Some b → P j b) → P (length l) a → (j : ℕ) (b : A) → slice_get (l ++ a ∷ []) j ≡ Some b → P j b
  at_pushed l a P old new j b there = ⊎_elim
      (λ t. subst (λ i. P i b) (sym t.0) (subst (P (length l)) t.1 new))
      (λ t. old j b t)
      (got_push l j a b there)

  -- what holds of the item written and each other, and of any two others, holds of any two in their order
  pub pairs_written : (l : List A) (k : ℕ) (a : A) (P : A → A → Type 0)
      → ((j : ℕ) (b : A) → slice_get l j ≡ Some b → k < j → P a b)
      → ((j : ℕ) (b : A) → slice_get l j ≡ Some b → j < k → P b a)
      → ((i j : ℕ) (b c : A) → slice_get l i ≡ Some b → slice_get l j ≡ Some c → i < j → P b c)
      → (i j : ℕ) (b c : A) → slice_get (set l k a) i ≡ Some b → slice_get (set l k a) j ≡ Some c → i < j → P b c
  pairs_written l k a P newer older both i j b c at_i at_j later = ⊎_elim
      (λ s. let i_is : i ≡ k = s.0 in ⊎_elim
      (λ t. let j_is : j ≡ k = t.0 in absurd (omega arith))
      (λ t. subst (λ x. P x c) s.1 (newer j c t.1 (omega arith)))
      (got_set l k j a c at_j))
      (λ s. ⊎_elim
      (λ t. let j_is : j ≡ k = t.0 in subst (P b) t.1 (older i b s.1 (omega arith)))
      (λ t. both i j b c s.1 t.1 later)
      (got_set l k j a c at_j))
      (got_set l k i a b at_i)

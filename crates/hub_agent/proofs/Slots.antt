-- How many slots of a slab pass a test, by what stands under each key.
use Rattle.std.proofs.Common.{◌≡◌, ◌≢◌, ◌∙◌, ℕ, zero, suc, ◌+◌, ◌<◌, Bool, false, cond, List, [], ◌∷◌, Option, Some, None, slice_set, get_or, get_or-set_other, get_or-set_same, length, ap, sym, refl, subst, ⊎_elim, arith}
use Rattle.std.proofs.lemmas.List.Sums.{sum_by-cons}
use Rattle.std.proofs.lemmas.Bool.{cases_eq, cases_lt}
use Rattle.std.proofs.lemmas.List.{get_or_past}
use Rattle.std.specs.List.{count_by}

pub count_cons : {X : Type 0} (p : X → Bool) (x : X) (xs : List X) → count_by p (x ∷ xs) ≡ cond (p x) 1 0 + count_by p xs
count_cons p x xs = sum_by-cons (λ y. cond (p y) 1 0) x xs

one_as : (a b : Bool) → a ≡ b → ◌≡◌ {A = ℕ} (cond a 1 0) (cond b 1 0)
one_as a b same = ap (λ c. cond {A = ℕ} c 1 0) same

-- a slot that has something is within
slot_within : {X : Type 0} (xs : List (Option X)) (key : ℕ) (h : X) → get_or xs key None ≡ Some h → key < length xs
slot_within xs key h is =
    ⊎_elim
    (λ below. below)
    (λ above. absurd (let past : get_or xs key None ≡ None = get_or_past xs key None above in let both = sym past ∙ is in cc))
    (cases_lt key (length xs))

-- A test that an empty slot doesn't pass.
module _ {X : Type 0} (p : Option X → Bool) (isnt : p None ≡ false) where
  count_none : (ys : List (Option X)) → ((k : ℕ) → p (get_or ys k None) ≡ false) → count_by p ys ≡ 0
  count_none [] none = refl
  count_none (y ∷ ys) none =
      let here = one_as (p y) false (none 0) in
      let rest = count_none ys (λ k. none (suc k)) in
      omega (arith, here, rest, count_cons p y ys)

  -- under each key both pass or neither
  pub count_agree : (xs ys : List (Option X)) → ((k : ℕ) → p (get_or ys k None) ≡ p (get_or xs k None)) → count_by p ys ≡ count_by p xs
  count_agree [] ys same = count_none ys (λ k. same k ∙ isnt)
  count_agree (x ∷ xs) [] same = sym (count_none (x ∷ xs) (λ k. sym (same k) ∙ isnt))
  count_agree (x ∷ xs) (y ∷ ys) same =
      let here = one_as (p y) (p x) (same 0) in
      let rest = count_agree xs ys (λ k. same (suc k)) in
      omega (arith, here, rest, count_cons p y ys, count_cons p x xs)

  -- one more stands under a key where nothing stood
  pub count_more : (key : ℕ) (xs ys : List (Option X)) (h : X) → get_or xs key None ≡ None → get_or ys key None ≡ Some h
      → ((k : ℕ) → k ≢ key → get_or ys k None ≡ get_or xs k None) → count_by p ys ≡ count_by p xs + cond (p (Some h)) 1 0
  count_more key xs [] h before now others = absurd cc
  count_more zero [] (y ∷ ys) h before now others =
      let here = one_as (p y) (p (Some h)) (ap p now) in
      let rest = count_none ys (λ k. ap p (others (suc k) (λ e. absurd (omega (arith, e)))) ∙ isnt) in
      omega (arith, here, rest, count_cons p y ys)
  count_more (suc key) [] (y ∷ ys) h before now others =
      let here = one_as (p y) false (ap p (others 0 (λ e. absurd (omega (arith, e)))) ∙ isnt) in
      let rest = count_more key [] ys h before now (λ k differs. others (suc k) (λ e. differs (omega (arith, e)))) in
      omega (arith, here, rest, count_cons p y ys)
  count_more zero (x ∷ xs) (y ∷ ys) h before now others =
      let gone = one_as (p x) false (ap p before ∙ isnt) in
      let here = one_as (p y) (p (Some h)) (ap p now) in
      let rest = count_agree xs ys (λ k. ap p (others (suc k) (λ e. absurd (omega (arith, e))))) in
      omega (arith, gone, here, rest, count_cons p y ys, count_cons p x xs)
  count_more (suc key) (x ∷ xs) (y ∷ ys) h before now others =
      let here = one_as (p y) (p x) (ap p (others 0 (λ e. absurd (omega (arith, e))))) in
      let rest = count_more key xs ys h before now (λ k differs. others (suc k) (λ e. differs (omega (arith, e)))) in
      omega (arith, here, rest, count_cons p y ys, count_cons p x xs)

  -- something else stands under the key of a slot, and both pass or neither
  pub count_set : (xs : List (Option X)) (key : ℕ) (h w : X) → get_or xs key None ≡ Some h → p (Some w) ≡ p (Some h) → count_by p (slice_set xs key (Some w)) ≡ count_by p xs
  count_set xs key h w before same =
      count_agree xs (slice_set xs key (Some w)) (λ k.
      ⊎_elim
      (λ is. subst (λ j. p (get_or (slice_set xs key (Some w)) j None) ≡ p (get_or xs j None)) (sym is)
      (ap p (get_or-set_same xs key (Some w) None (slot_within xs key h before)) ∙ same ∙ sym (ap p before)))
      (λ differs. ap p (get_or-set_other xs key k (Some w) None differs))
      (cases_eq k key))

-- Lists that are read by `slice_get` after a change of one item.
use Rattle.std.proofs.Common.{◌≡◌, ◌≢◌, ℕ, zero, suc, ◌+◌, List, [], ◌∷◌, ◌++◌, map, set, refl, ap, arith, Some}
use Rattle.std.specs.Prelude.{slice_get, sum_by}
use Rattle.std.proofs.lemmas.List.Sums.{sum_by-cons}
use Rattle.hub_core.proofs.Items.{some_is, none_got}
use Rattle.hub_gate.specs.GateSeats.{AllSame}

module _ {A : Type 0} where
  pub got_here : (l : List A) (i : ℕ) (a b : A) → slice_get l i ≡ Some b → slice_get (set l i a) i ≡ Some a
  got_here [] i a b e = none_got b e
  got_here (x ∷ xs) zero a b e = refl
  got_here (x ∷ xs) (suc i) a b e = got_here xs i a b e

  pub got_else : (l : List A) (i j : ℕ) (a : A) → j ≢ i → slice_get (set l i a) j ≡ slice_get l j
  got_else [] i j a n = refl
  got_else (x ∷ xs) zero zero a n = absurd (n refl)
  got_else (x ∷ xs) zero (suc j) a n = refl
  got_else (x ∷ xs) (suc i) zero a n = refl
  got_else (x ∷ xs) (suc i) (suc j) a n = got_else xs i j a (λ e. n (ap suc e))

  -- a sum after a change of one item
  pub sum_by-got_set : (f : A → ℕ) (l : List A) (i : ℕ) (v w : A) → slice_get l i ≡ Some v → sum_by f (set l i w) + f v ≡ sum_by f l + f w
  sum_by-got_set f [] i v w e = none_got v e
  sum_by-got_set f (x ∷ xs) zero v w e =
      let is : f x ≡ f v = ap f (some_is x v e) in
      omega (arith, sum_by-cons f w xs, sum_by-cons f x xs)
  sum_by-got_set f (x ∷ xs) (suc i) v w e =
      let r = sum_by-got_set f xs i v w e in
      omega (arith, sum_by-cons f x (set xs i w), sum_by-cons f x xs)

module _ {A B : Type 0} (f : A → B) where
  pub set-map : (l : List A) (i : ℕ) (a : A) → set (map f l) i (f a) ≡ map f (set l i a)
  set-map [] i a = refl
  set-map (x ∷ xs) zero a = refl
  set-map (x ∷ xs) (suc i) a = ap (λ l. f x ∷ l) (set-map xs i a)

module _ {A B : Type 0} (f : A → B) (b : B) where
  pub same-snoc : (xs : List A) (x : A) → AllSame f b xs → f x ≡ b → AllSame f b (xs ++ x ∷ [])
  same-snoc [] x all is = (is, tt)
  same-snoc (y ∷ xs) x all is = (all.0, same-snoc xs x all.1 is)

  pub same_parts : (xs : List A) (x : A) → AllSame f b (xs ++ x ∷ []) → AllSame f b xs × (f x ≡ b)
  same_parts [] x all = (tt, all.0)
  same_parts (y ∷ xs) x all = let r = same_parts xs x all.1 in ((all.0, r.0), r.1)

-- Lists that go on by one at their end.
use Rattle.std.proofs.Common.{◌≡◌, ◌⊎◌, ℕ, zero, suc, ◌+◌, ◌<◌, List, [], ◌∷◌, ◌++◌, length, refl, sym, ap, ◌∙◌, inl, inr, ⊎_elim, arith, length-append, Some}
use Rattle.std.specs.Prelude.{slice_get}

module _ {A : Type 0} where
  -- what stands in a list with one more at its end
  pub at_snoc : (xs : List A) (y : A) (i : ℕ) → i < length xs + 1 → ((i < length xs) × (slice_get (xs ++ y ∷ []) i ≡ slice_get xs i)) ⊎ ((i ≡ length xs) × (slice_get (xs ++ y ∷ []) i ≡ Some y))
  at_snoc [] y zero low = inr (refl, refl)
  at_snoc [] y (suc i) low = absurd (omega arith)
  at_snoc (x ∷ xs) y zero low = inl (omega arith, refl)
  at_snoc (x ∷ xs) y (suc i) low = ⊎_elim (λ t. let h = t.0 in inl (omega arith, t.1)) (λ t. inr (ap suc t.0, t.1)) (at_snoc xs y i (omega arith))

  -- two lists with one more at their ends
  pub parts_snoc : (xs ys : List A) (x y : A) → xs ++ x ∷ [] ≡ ys ++ y ∷ [] → (xs ≡ ys) × (x ≡ y)
  parts_snoc [] [] x y e = (refl, cc)
  parts_snoc [] (b ∷ []) x y e = absurd (let n = ap length e in omega arith)
  parts_snoc [] (b ∷ c ∷ ys) x y e = absurd (let n = ap length e in omega (arith, length-append ys (y ∷ [])))
  parts_snoc (a ∷ []) [] x y e = absurd (let n = ap length e in omega arith)
  parts_snoc (a ∷ c ∷ xs) [] x y e = absurd (let n = ap length e in omega (arith, length-append xs (x ∷ [])))
  parts_snoc (a ∷ xs) (b ∷ ys) x y e =
      let first : a ≡ b = cc in
      let later : xs ++ x ∷ [] ≡ ys ++ y ∷ [] = cc in
      let rest = parts_snoc xs ys x y later in
      ((λ i. first i ∷ rest.0 i), rest.1)

  -- the list of so many has at i what f makes of i
  module _ (f : ℕ → A) (l : ℕ → List A) (none : l 0 ≡ []) (more : (n : ℕ) → l (suc n) ≡ l n ++ f n ∷ []) where
    pub many_below : (n : ℕ) → length (l n) ≡ n
    many_below zero = ap length none
    many_below (suc n) = let rest = many_below n in let longer = ap length (more n) in omega (arith, length-append (l n) (f n ∷ []))

    pub at_below : (n i : ℕ) → i < n → slice_get (l n) i ≡ Some (f i)
    at_below zero i low = absurd (omega arith)
    at_below (suc n) i low =
        let many = many_below n in
        ap (λ (xs : List A). slice_get xs i) (more n) ∙ ⊎_elim
        (λ old. let within = old.0 in old.1 ∙ at_below n i (omega arith))
        (λ new. new.1 ∙ ap (λ (j : ℕ). Some (f j)) (sym (new.0 ∙ many)))
        (at_snoc (l n) (f n) i (omega arith))

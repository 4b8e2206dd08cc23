-- A list of which one place was written.
use Rattle.std.proofs.Common.{◌≡◌, ◌≢◌, ◌∙◌, ◌<◌, sym, ap, subst, refl, zero, suc, ℕ, Option, Some, List, [], ◌∷◌, ◌++◌, length, length-set, set, get_or, get_or-set_same, slice_get, ⊎_elim}
use Rattle.std.proofs.lemmas.Bool.{cases_eq}
use Rattle.std.proofs.lemmas.Option.{slice_get-get_or}

module _ {A : Type 0} where
  pub written_here : (xs : List A) (i : ℕ) (y : A) → i < length xs → slice_get (set xs i y) i ≡ Some y
  written_here xs i y low = slice_get-get_or (set xs i y) i y (subst (λ n. i < n) (sym (length-set xs i y)) low) ∙ ap Some (get_or-set_same xs i y y low)

  pub written_beside : (xs : List A) (i j : ℕ) (y : A) → j ≢ i → slice_get (set xs i y) j ≡ slice_get xs j
  written_beside (x ∷ xs) zero zero y other = absurd (other refl)
  written_beside (x ∷ xs) (suc i) (suc j) y other = written_beside xs i j y (λ e. other (ap suc e))
  written_beside _ _ _ y other = refl

  -- what holds of what was written there, and of the other places as they were
  pub each_written : (P : ℕ → Option A → Type 0) (xs : List A) (i : ℕ) (y : A) → i < length xs → P i (Some y) → ((j : ℕ) → j ≢ i → P j (slice_get xs j)) → (j : ℕ) → P j (slice_get (set xs i y) j)
  each_written P xs i y low here others j = ⊎_elim
      (λ same. subst (λ k. P k (slice_get (set xs i y) k)) (sym same) (subst (P i) (sym (written_here xs i y low)) here))
      (λ other. subst (P j) (sym (written_beside xs i j y other)) (others j other))
      (cases_eq j i)

  -- one more, behind the last
  pub pushed_here : (xs : List A) (y : A) → slice_get (xs ++ y ∷ []) (length xs) ≡ Some y
  pushed_here [] y = refl
  pushed_here (x ∷ xs) y = pushed_here xs y

  pub pushed_beside : (xs : List A) (y : A) (j : ℕ) → j ≢ length xs → slice_get (xs ++ y ∷ []) j ≡ slice_get xs j
  pushed_beside [] y zero other = absurd (other refl)
  pushed_beside [] y (suc j) other = refl
  pushed_beside (x ∷ xs) y zero other = refl
  pushed_beside (x ∷ xs) y (suc j) other = pushed_beside xs y j (λ e. other (ap suc e))

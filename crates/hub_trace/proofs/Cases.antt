-- Case splits that keep what was tested.
use Rattle.std.proofs.Common.{◌≡◌, Bool, true, false, not, ◌&&◌, ◌||◌, cond, List, ◌∷◌, refl, ap, ℕ, nat_lt, ◌==◌}
use Rattle.std.specs.declared.cmp.Ordering.{Ordering}
use Rattle.std.specs.declared.cmp.Ordering.TheVariants.{Less, Equal, Greater}
use Rattle.std.specs.Ordering.{is_lt, nat_cmp, ordering_then}

pub by_test : (C : Bool → Type 0) (b : Bool) → (b ≡ true → C true) → (b ≡ false → C false) → C b
by_test C true f g = f refl
by_test C false f g = g refl

pub neither : (a b : Bool) → (not a && not b) ≡ true → (a ≡ false) × (b ≡ false)
neither true b h = cc
neither false true h = cc
neither false false h = (refl, refl)

pub kept : {X : Type 0} (b : Bool) (x : X) (xs : List X) → b ≡ true → cond b (x ∷ xs) xs ≡ x ∷ xs
kept true x xs h = refl
kept false x xs h = cc

pub dropped : {X : Type 0} (b : Bool) (x : X) (xs : List X) → b ≡ false → cond b (x ∷ xs) xs ≡ xs
dropped true x xs h = cc
dropped false x xs h = refl

-- two elements may change places where at most one of them is kept
pub swap_kept : {X : Type 0} (s t : Bool) (y z : X) (fs gs : List X) → (s ≡ true → t ≡ true → ⊥) → fs ≡ cond t (y ∷ gs) gs → cond s (z ∷ fs) fs ≡ cond t (y ∷ cond s (z ∷ gs) gs) (cond s (z ∷ gs) gs)
swap_kept true true y z fs gs apart e = absurd (apart refl refl)
swap_kept true false y z fs gs apart e = ap (λ l. z ∷ l) e
swap_kept false true y z fs gs apart e = e
swap_kept false false y z fs gs apart e = e

pub strip : {X : Type 0} (b : Bool) (x : X) (xs ys : List X) → cond b (x ∷ xs) xs ≡ cond b (x ∷ ys) ys → xs ≡ ys
strip true x xs ys e = cc
strip false x xs ys e = e

pub then_equal : (a b : Ordering) → ordering_then a b ≡ Equal → (a ≡ Equal) × (b ≡ Equal)
then_equal Less b e = cc
then_equal Equal b e = (refl, e)
then_equal Greater b e = cc

then_lt_by : (s t : Bool) (o : Ordering) → is_lt (ordering_then (cond s Less (cond t Equal Greater)) o) ≡ (s || (t && is_lt o))
then_lt_by true t o = refl
then_lt_by false true o = refl
then_lt_by false false o = refl

pub then_lt : (a b : ℕ) (o : Ordering) → is_lt (ordering_then (nat_cmp a b) o) ≡ (nat_lt a b || ((a == b) && is_lt o))
then_lt a b o = then_lt_by (nat_lt a b) (a == b) o

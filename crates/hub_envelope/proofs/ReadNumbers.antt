-- A number that was read is a float, or it fits in 64 bits.
use Rattle.std.proofs.Common.{◌≡◌, ℕ, ◌^◌, ◌≤◌, ◌&&◌, ◌==◌, List, drop, get_or, Bool, true, false, cond, Option, Some, None, IfSome, nat_lt, nat_le, refl, arith, subst, true≢false}
use Rattle.std.specs.Float.{binary64, float_is_finite}
use Rattle.std.proofs.lemmas.Int.{ints}
use Rattle.fast_float.specs.Text.{minus, Parts, scan, digits_of, nearest, with_sign}
use Rattle.serde_json.specs.Data.{Num, unsigned, negative, float}
use Rattle.serde_json.specs.Find.{is_float}
use Rattle.serde_json.specs.Read.{is_integer, number_from, number_of, float_of}
use Rattle.hub_envelope.specs.Whole.{FitsInteger}

-- a number is a float or fits
abbrev pub FitsOrFloat : Num → Type 0
FitsOrFloat n = is_float n ≡ false → FitsInteger n

either_fits : (b : Bool) (x y : Option Num) → (b ≡ true → IfSome x FitsOrFloat) → IfSome y FitsOrFloat → IfSome (cond b x y) FitsOrFloat
either_fits true x y f g = f refl
either_fits false x y f g = g

float_of-fits : (sign : Bool) (p : Parts) → IfSome (float_of sign p) FitsOrFloat
float_of-fits sign p = either_fits (float_is_finite (nearest binary64 sign p)) (Some (float (nearest binary64 sign p))) None (λ _ e. absurd (true≢false e)) tt

number_from-fits : (sign : Bool) (p : Parts) → IfSome (number_from sign p) FitsOrFloat
number_from-fits false p = either_fits (is_integer p && nat_lt (digits_of p) (2 ^ 64)) (Some (unsigned (digits_of p))) _ (λ e _. grind arith) (float_of-fits false p)
number_from-fits true p = either_fits (is_integer p && nat_lt 0 (digits_of p) && nat_le (digits_of p) (2 ^ 63)) (Some (negative (with_sign true (digits_of p)))) _ (λ e _. let small : digits_of p ≤ 2 ^ 63 = grind arith in omega (arith, ints)) (float_of-fits true p)

number_of-IfSome : (s : List ℕ) → IfSome (number_of s) FitsOrFloat
unfolding number_of
number_of-IfSome s = either_fits (get_or s 0 0 == minus) (number_from true (scan (drop 1 s))) (number_from false (scan s)) (λ _. number_from-fits true (scan (drop 1 s))) (number_from-fits false (scan s))

pub number_of-fits : (s : List ℕ) (n : Num) → number_of s ≡ Some n → FitsOrFloat n
number_of-fits s n e = subst (λ (o : Option Num). IfSome o FitsOrFloat) e (number_of-IfSome s)

pub is_float-fits : (n : Num) → FitsInteger n → is_float n ≡ false
is_float-fits (unsigned n) h = refl
is_float-fits (negative z) h = refl
is_float-fits (float x) h = absurd h

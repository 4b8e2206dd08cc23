-- What is said by the cases of a test.
use Rattle.std.proofs.Common.{◌≡◌, Bool, true, false, sym, subst}
use Rattle.std.specs.Prelude.{MatchBool}

pub match_true : (b : Bool) (P Q : Type 0) → b ≡ true → P → MatchBool b P Q
match_true b P Q e p = subst (λ (x : Bool). MatchBool x P Q) (sym e) p

pub match_false : (b : Bool) (P Q : Type 0) → b ≡ false → Q → MatchBool b P Q
match_false b P Q e q = subst (λ (x : Bool). MatchBool x P Q) (sym e) q

pub case_true : (b : Bool) (P Q : Type 0) → b ≡ true → MatchBool b P Q → P
case_true b P Q e told = subst (λ (x : Bool). MatchBool x P Q) e told

pub case_false : (b : Bool) (P Q : Type 0) → b ≡ false → MatchBool b P Q → Q
case_false b P Q e told = subst (λ (x : Bool). MatchBool x P Q) e told

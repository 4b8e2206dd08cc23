-- What is read bit by bit: where a part is refused, the whole is.
use Rattle.std.proofs.Common.{◌≡◌, ◌⊎◌, Result, Err, ap, inl, inr}
use Rattle.hub_text.specs.Reading.{◌>>=◌}

pub carried : {A B E : Type 0} (memory e : E) (read : Result A E) (f : A → Result B E) → (e ≡ memory) ⊎ (read ≡ Err e) → (e ≡ memory) ⊎ ((read >>= f) ≡ Err e)
carried memory e read f (inl h) = inl h
carried memory e read f (inr h) = inr (ap (λ r. r >>= f) h)

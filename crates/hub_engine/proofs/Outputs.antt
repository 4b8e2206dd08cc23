-- The input that a reader tells.
use Rattle.std.proofs.Common.{ℕ, List, [], Option, Some, None, refl}
use Rattle.hub_engine.specs.IsInput.{IsInput}

abbrev pub told : Option (List ℕ) → List ℕ
told None = []
told (Some bytes) = bytes

pub is_told : (known : Option (List ℕ)) → IsInput known (told known)
is_told None = tt
is_told (Some bytes) = refl

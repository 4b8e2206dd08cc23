-- What a reader gives from some moment on, where it tells.
use Rattle.std.specs.Prelude.{◌≡◌, ℕ, ◌<◌, List, ◌++◌, length, take, Bool, IsTrue, Option, Some, None, Result, Ok, Err}
use Rattle.std.specs.Io.KnownBytes.{Consumes, IsAtEnd, Keeps}

-- the bytes are all that the reader had left
abbrev pub IsInput : Option (List ℕ) → List ℕ → Type 0
IsInput None input = Unit {0}
IsInput (Some bytes) input = bytes ≡ input

-- the bytes that were consumed are added, and none is left where the input has ended
abbrev pub ReadsMore : Option (List ℕ) → Option (List ℕ) → List ℕ → List ℕ → Bool → Type 0
ReadsMore old new kept longer has_ended =
    (got : List ℕ) × (longer ≡ kept ++ got) × Consumes old new got × (IsTrue has_ended → IsAtEnd new)

-- a read consumed the bytes that it gave, none only at the end or with no room; it gave none where it was
-- interrupted or failed
abbrev pub GivesBytes : {E : Type 0} → Option (List ℕ) → Option (List ℕ) → Result (Option ℕ) E → List ℕ → Type 0
GivesBytes old new (Ok (Some count)) piece = Consumes old new (take count piece) × (count ≡ 0 → 0 < length piece → IsAtEnd new)
GivesBytes old new (Ok None) piece = Keeps old new
GivesBytes old new (Err e) piece = Keeps old new

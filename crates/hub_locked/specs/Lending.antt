-- What is done to a value that is lent.
use Rattle.std.specs.Prelude.{◌≡◌, Option, Some, None}

-- it was done to a value that is shown; of another nothing is known
abbrev pub IsDoneIn : {T : Type 0} → Option T → Option T → (T → T → Type 0) → Type 0
IsDoneIn None now done = now ≡ None
IsDoneIn (Some was) None done = ⊥
IsDoneIn (Some was) (Some now) done = done was now

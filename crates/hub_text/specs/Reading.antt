-- How a reader of texts answers.
use Rattle.std.specs.Prelude.{◌≡◌, ◌⊎◌, ℕ, Option, Some, None, Result, Ok, Err}

-- What was returned, seen by view, is what the definition reads of the text. Or memory ran out, which
-- is the first argument and says nothing of the text.
abbrev pub IsReadAs : {X Y E : Type 0} → E → (X → Y) → Result X E → Result Y E → Type 0
IsReadAs memory view (Ok x) read = read ≡ Ok (view x)
IsReadAs memory view (Err e) read = (e ≡ memory) ⊎ (read ≡ Err e)

-- the same of the text lines of an input, where an error comes with the number of its line
abbrev pub AreLinesReadAs : {X Y E : Type 0} → E → (X → Y) → Result X (ℕ × E) → Result Y (ℕ × E) → Type 0
AreLinesReadAs memory view (Ok x) read = read ≡ Ok (view x)
AreLinesReadAs memory view (Err e) read = (e.1 ≡ memory) ⊎ (read ≡ Err e)

infixl 10 ◌>>=◌
-- what is read next, by what was read before; the first that is bad is told
abbrev pub ◌>>=◌ : {A B E : Type 0} → Result A E → (A → Result B E) → Result B E
(Ok x) >>= f = f x
(Err e) >>= f = Err e

-- what was found, or this is what is wrong
abbrev pub some_or : {A E : Type 0} → E → Option A → Result A E
some_or e None = Err e
some_or e (Some x) = Ok x

-- Counts of reads and writes that failed or were interrupted.
use Rattle.std.specs.Prelude.{◌≡◌, ℕ, ◌+◌, ◌%◌, ◌^◌, Option, Some, None, Result, Ok, Err}
use Rattle.hub_engine.specs.declared.input.InputError.{InputError}
use Rattle.hub_engine.specs.declared.input.InputError.TheVariants as input

-- one more, where the count has 64 bits
abbrev pub one_counted : ℕ → ℕ
one_counted count = (count + 1) % 2 ^ 64

-- what answers an error has failed once more, and else the count stays
abbrev pub CountsFailure : {T E : Type 0} → Result T E → ℕ → ℕ → Type 0
CountsFailure (Ok x) old new = new ≡ old
CountsFailure (Err e) old new = new ≡ one_counted old

-- the same, where want of memory is no failed read
abbrev pub CountsFailedRead : {T : Type 0} → Result T InputError → ℕ → ℕ → Type 0
CountsFailedRead (Ok x) old new = new ≡ old
CountsFailedRead (Err input.OutOfMemory) old new = new ≡ old
CountsFailedRead (Err input.Device) old new = new ≡ one_counted old

-- a read that gave no count was interrupted once more, and else none was
abbrev pub CountsInterruption : {T E : Type 0} → Result (Option T) E → ℕ → ℕ → Type 0
CountsInterruption (Ok None) old new = new ≡ one_counted old
CountsInterruption (Ok (Some x)) old new = new ≡ old
CountsInterruption (Err e) old new = new ≡ old

-- what answers Ok has seen to it, once, that all has gone out
abbrev pub CountsFlush : {T E : Type 0} → Result T E → ℕ → ℕ → Type 0
CountsFlush (Ok x) old new = new ≡ one_counted old
CountsFlush (Err e) old new = Unit {0}

-- Which numbers of JSON (RFC 8259, "Numbers") a body may hold. `serde_json` holds one that has a fraction or
-- an exponent, or that fits neither type, as a float, and `-0` too.
use Rattle.std.specs.Prelude.{◌^◌, ◌<◌, FitsSigned}
use Rattle.std.specs.Int.{w64}
use Rattle.serde_json.specs.Data.{Num, unsigned, negative, float, Data, null, boolean, number, string, array, object}
use Rattle.hub_envelope.specs.Everywhere.{Everywhere}

-- the number is whole and fits in u64, or in i64 where it is below 0
abbrev pub FitsInteger : Num → Type 0
FitsInteger (unsigned n) = n < 2 ^ 64
FitsInteger (negative z) = FitsSigned w64 z
FitsInteger (float x) = ⊥

-- a number fits; a value that is no number has nothing to keep
abbrev pub IsWholeNumber : Data → Type 0
IsWholeNumber null = Unit {0}
IsWholeNumber (boolean b) = Unit {0}
IsWholeNumber (number n) = FitsInteger n
IsWholeNumber (string s) = Unit {0}
IsWholeNumber (array ds) = Unit {0}
IsWholeNumber (object ms) = Unit {0}

-- each number in the value is whole and fits
abbrev pub IsWhole : Data → Type 0
IsWhole = Everywhere IsWholeNumber

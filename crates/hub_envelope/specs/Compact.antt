-- Values that are recognised in compact form. Only the crate's private clauses cite this.
use Rattle.std.specs.Cmp.Lexicographic.{slice_cmp}
use Rattle.std.specs.Fmt.{decimal}
use Rattle.std.specs.Ordering.{nat_cmp}
use Rattle.std.specs.declared.cmp.Ordering.TheVariants.{Less}
use Rattle.std.specs.Prelude.{◌≡◌, ℕ, pos, negsuc, ◌+◌, ◌^◌, ◌<◌, ◌≤◌, List, [], ◌++◌, Option, Some, None}
use Rattle.json.specs.Print.{escape_byte}
use Rattle.serde_json.specs.Data.{Num, unsigned, negative, float, Data, null, boolean, number, string, array, object, depth}
use Rattle.serde_json.specs.Written.{compact_text}
use Rattle.hub_envelope.specs.Everywhere.{Everywhere}
use Rattle.hub_envelope.specs.KeyOrder.{HasSortedKeys}
use Rattle.hub_envelope.specs.declared.limits.TheConstants.{MAX_NESTING}

-- at most 18 digits, and a minus only before a number below 0
abbrev pub IsShort : Num → Type 0
IsShort (unsigned n) = n < 10 ^ 18
IsShort (negative (pos n)) = ⊥
IsShort (negative (negsuc n)) = n + 1 < 10 ^ 18
IsShort (float x) = ⊥

abbrev pub HasShortNumber : Data → Type 0
HasShortNumber null = Unit {0}
HasShortNumber (boolean b) = Unit {0}
HasShortNumber (number n) = IsShort n
HasShortNumber (string s) = Unit {0}
HasShortNumber (array ds) = Unit {0}
HasShortNumber (object ms) = Unit {0}

-- a number is short, and an object has each key once, in byte order
abbrev pub IsSimple : Data → Type 0
IsSimple d = HasShortNumber d × HasSortedKeys d

-- at the front of the text stands the compact text of such a value, and then the rest
pub record IsFront (levels : ℕ) (text rest : List ℕ) : Type 0 where
  pub value : Data
  pub stands : text ≡ compact_text value ++ rest
  pub simple : Everywhere IsSimple value
  pub nested : depth value ≤ levels

-- at the front of the text stand the digits of such a number, which isn't 0
abbrev pub IsNumberBefore : List ℕ → List ℕ → Type 0
IsNumberBefore text rest = (n : ℕ) × (0 < n) × (n < 10 ^ 18) × (text ≡ decimal n ++ rest)

-- at the front of the text stands the escape of a byte
abbrev pub IsEscapeBefore : List ℕ → List ℕ → Type 0
IsEscapeBefore text rest = (byte : ℕ) × (text ≡ escape_byte byte ++ rest)

-- the key is above the one before it in byte order, if there is one
abbrev pub IsAbove : Option (List ℕ) → List ℕ → Type 0
IsAbove None key = Unit {0}
IsAbove (Some before) key = slice_cmp nat_cmp before key ≡ Less

-- the whole text is that of such a value
abbrev pub IsCompact : List ℕ → Type 0
IsCompact text = IsFront MAX_NESTING text []

-- Numbers in decimal.
use Rattle.std.specs.Prelude.{ℕ, ◌+◌, ◌*◌, ◌-◌, List, [], ◌∷◌, length, Bool, Option, Some, None, ◌==◌, ◌&&◌, ◌||◌, not, nat_le, nat_lt, slice_index, if◌then◌else◌}
use Rattle.std.specs.List.{list_all}

abbrev pub is_digit : ℕ → Bool
is_digit b = nat_le 48 b && nat_le b 57

-- the number whose decimal digits are those of n and then the given ones
abbrev pub value_after : ℕ → List ℕ → ℕ
value_after n [] = n
value_after n (b ∷ bytes) = value_after (n * 10 + (b - 48)) bytes

-- one digit, or several that don't begin with 0
abbrev pub is_numeral : List ℕ → Bool
is_numeral word = nat_lt 0 (length word) && (nat_lt (length word) 2 || not (slice_index word 0 == 48)) && list_all is_digit word

-- decimal digits without leading zeros, at most max
unfoldable pub number_of : ℕ → List ℕ → Option ℕ
number_of max word = if is_numeral word && nat_le (value_after 0 word) max then Some (value_after 0 word) else None

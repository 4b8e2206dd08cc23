-- The words of a text line: it is cut at every single space, so that words may be empty.
use Rattle.std.specs.Prelude.{ℕ, List, length, Bool, Option, Some, None, ◌==◌, nat_lt, if◌then◌else◌}
use Rattle.std.specs.List.{position_or_len, before_first, after_first}

-- whether the byte stands in the text
abbrev pub has_byte : ℕ → List ℕ → Bool
has_byte c text = nat_lt (position_or_len (λ b. b == c) text) (length text)

-- what comes before the first such byte, and what comes after it
unfoldable pub cut : ℕ → List ℕ → Option (List ℕ × List ℕ)
cut c text = if has_byte c text then Some (before_first (λ b. b == c) text, after_first (λ b. b == c) text) else None

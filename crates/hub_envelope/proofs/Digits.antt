-- Decimal digits, and what two tests say together.
use Rattle.std.proofs.Common.{◌≡◌, ℕ, List, Bool, true, ◌&&◌, ap, ◌∙◌, rules}
use Rattle.std.proofs.lemmas.Str.Parse.{IsNumeralModel, numerals_by_value}
use Rattle.std.specs.Char.{is_ascii_digit}
use Rattle.std.specs.List.{list_all}
use Rattle.std.specs.Str.Parse.{digits_value}

abbrev pub are_digits : List ℕ → Type 0
are_digits ds = list_all is_ascii_digit ds ≡ true

pub own : IsNumeralModel are_digits (digits_value 10)
own = numerals_by_value are_digits (search rules)

pub both_true : (a b : Bool) → a ≡ true → b ≡ true → (a && b) ≡ true
both_true a b h k = ap (λ x. x && b) h ∙ k

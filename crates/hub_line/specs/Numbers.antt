-- The numbers of the items of a ring.
use Rattle.std.specs.Prelude.{◌≡◌, ℕ, zero, suc, ◌%◌, ◌^◌, List, [], ◌∷◌, ◌++◌, length}
use Rattle.hub_line.specs.declared.ring.Numbered.{Numbered}

-- 0, 1, 2 and so on, of which there are n
abbrev pub first_numbers : ℕ → List ℕ
first_numbers zero = []
first_numbers (suc n) = first_numbers n ++ (n % 2 ^ 64) ∷ []

module _ {T : Type 0} where
  abbrev pub items : List (Numbered T) → List T
  items [] = []
  items (x ∷ xs) = x.item ∷ items xs

  abbrev pub numbers : List (Numbered T) → List ℕ
  numbers [] = []
  numbers (x ∷ xs) = x.number ∷ numbers xs

  -- the item's number is the count of those before it
  abbrev pub IsNext : List (Numbered T) → Numbered T → Type 0
  IsNext before x = x.number ≡ length before % 2 ^ 64

  -- the items have the numbers 0, 1, 2 and so on, with no gap
  abbrev pub AreCounted : List (Numbered T) → Type 0
  AreCounted xs = numbers xs ≡ first_numbers (length xs)

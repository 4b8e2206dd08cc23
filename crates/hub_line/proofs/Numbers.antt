-- The numbers of the items of a ring.
use Rattle.std.proofs.Common.{◌≡◌, ◌∙◌, sym, ℕ, suc, ◌+◌, ◌%◌, ◌^◌, List, [], ◌∷◌, ◌++◌, length, refl, ap, arith, add-one, length-append}
use Rattle.std.proofs.Math.Nat.{mod-add-mod}
use Rattle.hub_line.specs.declared.ring.Numbered.{Numbered}
use Rattle.hub_line.specs.Numbers.{items, numbers, first_numbers, IsNext, AreCounted}

module _ {T : Type 0} where
  pub items-append : (xs ys : List (Numbered T)) → items (xs ++ ys) ≡ items xs ++ items ys
  items-append [] ys = refl
  items-append (x ∷ xs) ys = ap (λ zs. x.item ∷ zs) (items-append xs ys)

  pub length-items : (xs : List (Numbered T)) → length (items xs) ≡ length xs
  length-items [] = refl
  length-items (x ∷ xs) = ap (λ n. suc n) (length-items xs)

  numbers-append : (xs ys : List (Numbered T)) → numbers (xs ++ ys) ≡ numbers xs ++ numbers ys
  numbers-append [] ys = refl
  numbers-append (x ∷ xs) ys = ap (λ ns. x.number ∷ ns) (numbers-append xs ys)

  pub length-snoc : (xs : List (Numbered T)) (x : Numbered T) → length (xs ++ x ∷ []) ≡ suc (length xs)
  length-snoc xs x = omega (arith, length-append xs (x ∷ []))

  -- one item more
  pub items-snoc : (before after : List (Numbered T)) (x : Numbered T) → after ≡ before ++ x ∷ [] → items after ≡ items before ++ x.item ∷ []
  items-snoc before after x e = ap items e ∙ items-append before (x ∷ [])

  -- the next item has the next number
  pub first_numbers-snoc : (before after : List (Numbered T)) (x : Numbered T) → after ≡ before ++ x ∷ [] → AreCounted before → IsNext before x → AreCounted after
  first_numbers-snoc before after x e are next =
      ap numbers e ∙ (numbers-append before (x ∷ []) ∙ (rw (are, next) (sym (ap first_numbers (ap length e ∙ length-snoc before x)))))

  -- the number of the item after the next
  pub next-snoc : (before after : List (Numbered T)) (x : Numbered T) (next : ℕ) → after ≡ before ++ x ∷ [] → next ≡ length before % 2 ^ 64 → (next + 1) % 2 ^ 64 ≡ length after % 2 ^ 64
  next-snoc before after x next e is =
      ap (λ n. (n + 1) % 2 ^ 64) is ∙ (mod-add-mod (length before) (2 ^ 64) 1 ∙ ap (λ n. n % 2 ^ 64) (add-one (length before) ∙ sym (ap length e ∙ length-snoc before x)))

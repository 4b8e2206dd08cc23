-- Cutting a text at the first byte of a kind.
use Rattle.std.proofs.Common.{◌≡◌, ℕ, ◌+◌, ◌<◌, List, length, get_or, take, drop, true, false, eqb, ltb, Some, None, refl, arith}
use Rattle.std.proofs.lemmas.Bool.Decides.{nat_tests}
use Rattle.std.proofs.lemmas.List.Sums.{position_or_len_is}
use Rattle.std.specs.List.{position_or_len}
use Rattle.hub_text.specs.Word.{cut}

-- the byte stands at the index and nowhere before
pub record IsFirst (c : ℕ) (text : List ℕ) (i : ℕ) : Type 0 where
  pub within : i < length text
  pub here : eqb (get_or text i 0) c ≡ true
  pub before : (k : ℕ) → k < i → eqb (get_or text k 0) c ≡ false

pub is_byte : (c : ℕ) (text : List ℕ) (i : ℕ) → IsFirst c text i → get_or text i 0 ≡ c
is_byte c text i first = let h = first.here in grind (arith, nat_tests)

pub cut_there : (c : ℕ) (text : List ℕ) (i : ℕ) → IsFirst c text i → cut c text ≡ Some (take i text, drop (i + 1) text)
unfolding cut
cut_there c text i first =
    let within = first.within in
    let place : position_or_len (λ b. eqb b c) text ≡ i = position_or_len_is (λ b. eqb b c) text i 0 (omega arith) first.before (λ _. first.here) in
    let some : ltb i (length text) ≡ true = grind (arith, nat_tests) in
    rw (place, some) refl

pub cut_nowhere : (c : ℕ) (text : List ℕ) → ((k : ℕ) → k < length text → eqb (get_or text k 0) c ≡ false) → cut c text ≡ None
unfolding cut
cut_nowhere c text before =
    let place : position_or_len (λ b. eqb b c) text ≡ length text = position_or_len_is (λ b. eqb b c) text (length text) 0 (omega arith) before (λ h. absurd (omega (arith, h))) in
    let none : ltb (length text) (length text) ≡ false = grind (arith, nat_tests) in
    rw (place, none) refl

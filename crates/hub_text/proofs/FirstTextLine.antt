-- The first line of some bytes, where the first LF is known.
use Rattle.std.proofs.Common.{◌≡◌, ℕ, suc, ◌+◌, ◌-◌, ◌<◌, List, [], ◌∷◌, ◌++◌, length, get_or, take, drop, true, false, eqb, refl, sym, ap, ◌∙◌, arith}
use Rattle.std.proofs.lemmas.Bool.{ne_eqb}
use Rattle.std.proofs.lemmas.Bool.Decides.{nat_tests}
use Rattle.std.proofs.lemmas.Grind.{common_steps}
use Rattle.std.proofs.lemmas.List.{take-append-drop, get_or-take, length-take}
use Rattle.std.proofs.Math.Seq.{drop-cons}
use Rattle.hub_text.specs.TextLines.{text_lines_of, onto_first}

-- no byte is an LF
abbrev pub HasNoEnd : List ℕ → Type 0
HasNoEnd line = (k : ℕ) → k < length line → get_or line k 0 ≡ 10 → ⊥

without_first : (b : ℕ) (line : List ℕ) → HasNoEnd (b ∷ line) → HasNoEnd line
without_first b line h = λ k lt e. h (suc k) (omega arith) e

pub line_before : (line rest : List ℕ) → HasNoEnd line → text_lines_of (line ++ 10 ∷ rest) ≡ line ∷ text_lines_of rest
unfolding text_lines_of
line_before [] rest h = refl
line_before (b ∷ line) rest h =
    let other : eqb b 10 ≡ false = ne_eqb b 10 (h 0 (omega arith)) in
    rw (other, line_before line rest (without_first b line h)) refl

pub last_line : (b : ℕ) (line : List ℕ) → HasNoEnd (b ∷ line) → text_lines_of (b ∷ line) ≡ (b ∷ line) ∷ []
unfolding text_lines_of
last_line b [] h =
    let other : eqb b 10 ≡ false = ne_eqb b 10 (h 0 (omega arith)) in
    rw other refl
last_line b (d ∷ line) h =
    let other : eqb b 10 ≡ false = ne_eqb b 10 (h 0 (omega arith)) in
    rw other (ap (onto_first b) (last_line d line (without_first b (d ∷ line) h)))

pub last_of : (bytes : List ℕ) → 0 < length bytes → HasNoEnd bytes → text_lines_of bytes ≡ bytes ∷ text_lines_of []
unfolding text_lines_of
last_of [] some h = absurd (omega (arith, some))
last_of (b ∷ line) some h = last_line b line h

pub first_of : (bytes : List ℕ) (k : ℕ) → k < length bytes → get_or bytes k 0 ≡ 10 → ((i : ℕ) → i < k → get_or bytes i 0 ≡ 10 → ⊥) → text_lines_of bytes ≡ take k bytes ∷ text_lines_of (drop (k + 1) bytes)
first_of bytes k lt at before =
    let next : suc k ≡ k + 1 = omega arith in
    let cut : bytes ≡ take k bytes ++ 10 ∷ drop (k + 1) bytes = sym (take-append-drop k bytes) ∙ ap (λ xs. take k bytes ++ xs) (drop-cons bytes k 0 lt ∙ ap (λ b. b ∷ drop (suc k) bytes) at ∙ ap (λ n. 10 ∷ drop n bytes) next) in
    let clean : HasNoEnd (take k bytes) = λ i below e. before i (omega (arith, length-take k bytes)) (sym (get_or-take k bytes i 0 (omega (arith, length-take k bytes))) ∙ e) in
    ap text_lines_of cut ∙ line_before (take k bytes) (drop (k + 1) bytes) clean

pub is_end : (bytes : List ℕ) (k : ℕ) → eqb (get_or bytes k 0) 10 ≡ true → get_or bytes k 0 ≡ 10
is_end bytes k e = grind (arith, nat_tests)

pub no_end : (bytes : List ℕ) (k : ℕ) → (eqb (get_or bytes k 0) 10 ≡ true → ⊥) → get_or bytes k 0 ≡ 10 → ⊥
no_end bytes k h e = h (grind (arith, nat_tests))

pub whole_rest : (bytes : List ℕ) (n : ℕ) → take (length bytes - n) (drop n bytes) ≡ drop n bytes
whole_rest bytes n = grind (arith, common_steps)

pub no_rest : (bytes : List ℕ) → take (length bytes - length bytes) (drop (length bytes) bytes) ≡ []
no_rest bytes = grind (arith, common_steps)

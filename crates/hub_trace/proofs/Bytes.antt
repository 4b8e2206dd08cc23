-- Which bytes stand in a text, and where it may be cut.
use Rattle.std.proofs.Common.{◌≡◌, ℕ, zero, suc, ◌+◌, ◌<◌, ◌^◌, List, [], ◌∷◌, ◌++◌, length, take, drop, Bool, true, false, cond, not, nat_lt, nat_le, ◌&&◌, Some, None, All, refl, ap, ◌∙◌, arith, length-append}
use Rattle.std.specs.Prelude.{◌==◌}
use Rattle.std.specs.Fmt.{decimal}
use Rattle.std.specs.List.{list_all, position_or_len}
use Rattle.std.proofs.lemmas.Bool.Decides.{nat_tests}
use Rattle.std.proofs.lemmas.Fmt.{digits_decimal}
use Rattle.std.proofs.lemmas.List.Folds.{list_all-append}
use Rattle.hub_text.specs.Number.{is_digit}
use Rattle.hub_text.proofs.Numbers.{own}
use Rattle.hub_text.specs.Word.{cut}

-- every byte of the text passes the test
abbrev pub HasOnly : (ℕ → Bool) → List ℕ → Type 0
HasOnly test text = list_all test text ≡ true

abbrev pub other_than : ℕ → ℕ → Bool
other_than c b = not (b == c)

-- the byte doesn't stand in the text
abbrev pub Lacks : ℕ → List ℕ → Type 0
Lacks c text = HasOnly (other_than c) text

-- the byte is no control character
abbrev pub is_visible : ℕ → Bool
is_visible b = nat_le 32 b

pub left_of : (a b : Bool) → (a && b) ≡ true → a ≡ true
left_of true b h = refl
left_of false b h = h

pub right_of : (a b : Bool) → (a && b) ≡ true → b ≡ true
right_of true b h = h
right_of false b h = let wrong : false ≡ true = h in cc

pub both : (a b : Bool) → a ≡ true → b ≡ true → (a && b) ≡ true
both a b h k = ap (λ x. x && b) h ∙ k

pub not_true : (b : Bool) → not b ≡ true → b ≡ false
not_true true h = let wrong : false ≡ true = h in cc
not_true false h = refl

pub HasOnly-weaker : (p q : ℕ → Bool) → ((b : ℕ) → p b ≡ true → q b ≡ true) → (text : List ℕ) → HasOnly p text → HasOnly q text
HasOnly-weaker p q h [] only = refl
HasOnly-weaker p q h (b ∷ text) only = both (q b) (list_all q text) (h b (left_of (p b) (list_all p text) only)) (HasOnly-weaker p q h text (right_of (p b) (list_all p text) only))

pub HasOnly-append : (p : ℕ → Bool) (xs ys : List ℕ) → HasOnly p xs → HasOnly p ys → HasOnly p (xs ++ ys)
HasOnly-append p xs ys h k = list_all-append p xs ys ∙ both (list_all p xs) (list_all p ys) h k

visible_other : (b : ℕ) → is_visible b ≡ true → other_than 10 b ≡ true
visible_other b h = grind (arith, nat_tests)

pub Lacks-visible : (text : List ℕ) → HasOnly is_visible text → Lacks 10 text
Lacks-visible = HasOnly-weaker is_visible (other_than 10) visible_other

-- ---- digits

pub other_than-digit : (c b : ℕ) → (is_digit c ≡ false) → is_digit b ≡ true → other_than c b ≡ true
other_than-digit c b h k = grind (arith, nat_tests)

pub is_visible-digit : (b : ℕ) → is_digit b ≡ true → is_visible b ≡ true
is_visible-digit b h = grind (arith, nat_tests)

pub Lacks-decimal : (c n : ℕ) → is_digit c ≡ false → n < 2 ^ 64 → Lacks c (decimal n)
Lacks-decimal c n other small = HasOnly-weaker is_digit (other_than c) (λ b. other_than-digit c b other) (decimal n) (digits_decimal own n small)

pub decimal-visible : (n : ℕ) → n < 2 ^ 64 → HasOnly is_visible (decimal n)
decimal-visible n small = HasOnly-weaker is_digit is_visible is_visible-digit (decimal n) (digits_decimal own n small)

-- ---- cutting

pub All-from_Lacks : (c : ℕ) (text : List ℕ) → Lacks c text → All (λ b. (b == c) ≡ false) text
All-from_Lacks c [] h k d lt = absurd (omega arith)
All-from_Lacks c (b ∷ text) h zero d lt = not_true (b == c) (left_of (not (b == c)) (list_all (other_than c) text) h)
All-from_Lacks c (b ∷ text) h (suc k) d lt = All-from_Lacks c text (right_of (not (b == c)) (list_all (other_than c) text) h) k d (omega arith)

take_front : (a rest : List ℕ) → take (length a) (a ++ rest) ≡ a
take_front [] rest = refl
take_front (b ∷ a) rest = ap (λ xs. b ∷ xs) (take_front a rest)

drop_past : (c : ℕ) (a rest : List ℕ) → drop (suc (length a)) (a ++ c ∷ rest) ≡ rest
drop_past c [] rest = refl
drop_past c (b ∷ a) rest = drop_past c a rest

drop_front : (c : ℕ) (a rest : List ℕ) → drop (length a + 1) (a ++ c ∷ rest) ≡ rest
drop_front c a rest =
    let next : length a + 1 ≡ suc (length a) = omega arith in
    ap (λ n. drop n (a ++ c ∷ rest)) next ∙ drop_past c a rest

first_place : (c : ℕ) (a rest : List ℕ) → Lacks c a → position_or_len (λ b. b == c) (a ++ c ∷ rest) ≡ length a
first_place c [] rest h =
    let here : (c == c) ≡ true = grind (arith, nat_tests) in
    rw here refl
first_place c (b ∷ a) rest h =
    let other : (b == c) ≡ false = not_true (b == c) (left_of (not (b == c)) (list_all (other_than c) a) h) in
    rw (other, first_place c a rest (right_of (not (b == c)) (list_all (other_than c) a) h)) (omega arith)

cut_at : (c n : ℕ) (text : List ℕ) → position_or_len (λ b. b == c) text ≡ n → n < length text → cut c text ≡ Some (take n text, drop (n + 1) text)
unfolding cut
cut_at c n text at lt =
    let yes : nat_lt n (length text) ≡ true = grind (arith, nat_tests) in
    ap (λ k. cond (nat_lt k (length text)) (Some (take k text, drop (k + 1) text)) None) at
    ∙ ap (λ b. cond b (Some (take n text, drop (n + 1) text)) None) yes

-- the first such byte ends the first word
pub cut-here : (c : ℕ) (a rest : List ℕ) → Lacks c a → cut c (a ++ c ∷ rest) ≡ Some (a, rest)
cut-here c a rest h = cut_at c (length a) (a ++ c ∷ rest) (first_place c a rest h) (omega (arith, length-append a (c ∷ rest)))
    ∙ (λ i. Some (take_front a (c ∷ rest) i, drop_front c a rest i))

-- The compact text of a body has no control character and doesn't begin with a space.
use Rattle.std.proofs.Common.{◌≡◌, ◌≢◌, ℕ, suc, ◌+◌, get_or, true≢false, ◌<◌, ◌≤◌, ◌^◌, ◌/◌, ◌%◌, List, [], ◌∷◌, ◌++◌, Bool, true, false, cond, nat_lt, nat_le, ◌&&◌, ◌||◌, pos, negsuc, refl, sym, subst, ◌∙◌, arith}
use Rattle.std.specs.Prelude.{◌==◌}
use Rattle.std.specs.Char.{digit_char, is_ascii_digit}
use Rattle.std.specs.Fmt.{decimal}
use Rattle.std.specs.List.{list_all}
use Rattle.std.proofs.lemmas.Bool.Decides.{nat_tests}
use Rattle.std.proofs.lemmas.Fmt.{digits_decimal}
use Rattle.std.proofs.lemmas.List.Folds.{list_all-append}
use Rattle.std.proofs.lemmas.Int.{ints}
use Rattle.json.specs.Print.{escape, escape_byte, escape_letter, quoted}
use Rattle.serde_json.specs.Data.{Num, unsigned, negative, float, Data, null, boolean, number, string, array, object, Items, no_items, item, Members, no_members, member}
use Rattle.serde_json.specs.Written.{comma_if, compact_text, items_text, members_text, number_text}
use Rattle.hub_envelope.specs.BodyText.{IsBodyText}
use Rattle.hub_envelope.specs.Everywhere.{InEachItem, InEachMember}
use Rattle.hub_envelope.specs.Whole.{FitsInteger, IsWhole, IsWholeNumber}
use Rattle.hub_envelope.proofs.Digits.{are_digits, own, both_true}

-- ---- every byte passes a test

abbrev is_visible : ℕ → Bool
is_visible b = nat_le 32 b

abbrev IsVisible : List ℕ → Type 0
IsVisible text = list_all is_visible text ≡ true

left_of : (a b : Bool) → (a && b) ≡ true → a ≡ true
left_of true b h = refl
left_of false b h = h

right_of : (a b : Bool) → (a && b) ≡ true → b ≡ true
right_of true b h = h
right_of false b h = absurd (true≢false (sym h))

by_test : (C : Bool → Type 0) (b : Bool) → (b ≡ true → C true) → (b ≡ false → C false) → C b
by_test C true f g = f refl
by_test C false f g = g refl

IsVisible-append : (xs ys : List ℕ) → IsVisible xs → IsVisible ys → IsVisible (xs ++ ys)
IsVisible-append xs ys h k = list_all-append is_visible xs ys ∙ both_true (list_all is_visible xs) (list_all is_visible ys) h k

-- ---- digits

digits_visible : (text : List ℕ) → are_digits text → IsVisible text
digits_visible [] only = refl
digits_visible (b ∷ text) only =
    let digit : is_ascii_digit b ≡ true = left_of (is_ascii_digit b) (list_all is_ascii_digit text) only in
    let here : is_visible b ≡ true = grind (arith, nat_tests) in
    both_true (is_visible b) (list_all is_visible text) here (digits_visible text (right_of (is_ascii_digit b) (list_all is_ascii_digit text) only))

decimal-visible : (n : ℕ) → n < 2 ^ 64 → IsVisible (decimal n)
decimal-visible n small = digits_visible (decimal n) (digits_decimal own n small)

-- ---- strings

visible_from : (b : ℕ) → 32 ≤ b → is_visible b ≡ true
visible_from b le = grind (arith, nat_tests)

letter_from : (x : ℕ) (quote back feed end return tab : Bool) → nat_lt 0 (cond quote x (cond back 98 (cond feed 102 (cond end 110 (cond return 114 (cond tab 116 0)))))) ≡ true
    → (quote ≡ true → 32 ≤ x) → 32 ≤ cond quote x (cond back 98 (cond feed 102 (cond end 110 (cond return 114 (cond tab 116 0)))))
letter_from x true back feed end return tab some h = h refl
letter_from x false true feed end return tab some h = omega arith
letter_from x false false true end return tab some h = omega arith
letter_from x false false false true return tab some h = omega arith
letter_from x false false false false true tab some h = omega arith
letter_from x false false false false false true some h = omega arith
letter_from x false false false false false false some h = let wrong : false ≡ true = some in cc

letter_visible : (x : ℕ) → nat_lt 0 (escape_letter x) ≡ true → 32 ≤ escape_letter x
letter_visible x some = letter_from x ((x == 34) || (x == 92)) (x == 8) (x == 12) (x == 10) (x == 13) (x == 9) some (λ e. grind (arith, nat_tests))

digit_from : (d : ℕ) (low : Bool) → 32 ≤ cond low (48 + d) (87 + d)
digit_from d true = omega arith
digit_from d false = omega arith

digit_visible : (d : ℕ) → is_visible (digit_char d) ≡ true
digit_visible d = visible_from (digit_char d) (digit_from d (nat_lt d 10))

byte_visible : (x : ℕ) → IsVisible (escape_byte x)
unfolding escape_byte
byte_visible x =
    by_test (λ b. IsVisible (cond b (92 ∷ escape_letter x ∷ []) (cond (nat_lt x 32) (92 ∷ 117 ∷ 48 ∷ 48 ∷ digit_char (x / 16) ∷ digit_char (x % 16) ∷ []) (x ∷ [])))) (nat_lt 0 (escape_letter x))
    (λ some. both_true (is_visible (escape_letter x)) true (visible_from (escape_letter x) (letter_visible x some)) refl)
    (λ _. by_test (λ b. IsVisible (cond b (92 ∷ 117 ∷ 48 ∷ 48 ∷ digit_char (x / 16) ∷ digit_char (x % 16) ∷ []) (x ∷ []))) (nat_lt x 32)
    (λ _. both_true (is_visible (digit_char (x / 16))) (is_visible (digit_char (x % 16)) && true) (digit_visible (x / 16)) (both_true (is_visible (digit_char (x % 16))) true (digit_visible (x % 16)) refl))
    (λ high. both_true (is_visible x) true (grind (arith, nat_tests)) refl))

escape_visible : (s : List ℕ) → IsVisible (escape s)
escape_visible [] = refl
escape_visible (x ∷ s) = IsVisible-append (escape_byte x) (escape s) (byte_visible x) (escape_visible s)

quoted_visible : (s : List ℕ) → IsVisible (quoted s)
quoted_visible s = IsVisible-append (escape s) (34 ∷ []) (escape_visible s) refl

-- ---- numbers

number_visible : (n : Num) → FitsInteger n → IsVisible (number_text n)
number_visible (unsigned n) fits = decimal-visible n fits
number_visible (negative (pos n)) fits = decimal-visible n (omega (arith, ints))
number_visible (negative (negsuc n)) fits = decimal-visible (suc n) (omega (arith, ints))
number_visible (float x) fits = absurd fits

-- ---- values

comma_visible : (later : Bool) → IsVisible (comma_if later)
comma_visible true = refl
comma_visible false = refl

mutual
  text_visible : (d : Data) → IsWhole d → IsVisible (compact_text d)
  text_visible null h = refl
  text_visible (boolean true) h = refl
  text_visible (boolean false) h = refl
  text_visible (number n) h = number_visible n h
  text_visible (string s) h = quoted_visible s
  text_visible (array ds) h = items_visible false ds h.1
  text_visible (object ms) h = members_visible false ms h.1

  items_visible : (later : Bool) (ds : Items) → InEachItem IsWholeNumber ds → IsVisible (items_text later ds)
  items_visible later no_items h = refl
  items_visible later (item d ds) h =
      IsVisible-append (comma_if later) (compact_text d ++ items_text true ds) (comma_visible later)
      (IsVisible-append (compact_text d) (items_text true ds) (text_visible d h.0) (items_visible true ds h.1))

  members_visible : (later : Bool) (ms : Members) → InEachMember IsWholeNumber ms → IsVisible (members_text later ms)
  members_visible later no_members h = refl
  members_visible later (member k d ms) h =
      IsVisible-append (comma_if later) (quoted k ++ 58 ∷ (compact_text d ++ members_text true ms)) (comma_visible later)
      (IsVisible-append (quoted k) (58 ∷ (compact_text d ++ members_text true ms)) (quoted_visible k)
      (IsVisible-append (compact_text d) (members_text true ms) (text_visible d h.0) (members_visible true ms h.1)))

-- ---- the first byte

abbrev BeginsElse : List ℕ → Type 0
BeginsElse text = get_or text 0 0 ≢ 32

digits_first : (text : List ℕ) → are_digits text → BeginsElse text
digits_first [] digits e = omega arith
digits_first (b ∷ text) digits e =
    let digit : is_ascii_digit b ≡ true = left_of (is_ascii_digit b) (list_all is_ascii_digit text) digits in
    let same : b ≡ 32 = e in
    grind (arith, nat_tests)

decimal_first : (n : ℕ) → n < 2 ^ 64 → BeginsElse (decimal n)
decimal_first n small = digits_first (decimal n) (digits_decimal own n small)

number_first : (n : Num) → FitsInteger n → BeginsElse (number_text n)
number_first (unsigned n) fits = decimal_first n fits
number_first (negative (pos n)) fits = decimal_first n (omega (arith, ints))
number_first (negative (negsuc n)) fits = λ e. omega arith
number_first (float x) fits = absurd fits

text_first : (d : Data) → IsWhole d → BeginsElse (compact_text d)
text_first null h e = omega arith
text_first (boolean true) h e = omega arith
text_first (boolean false) h e = omega arith
text_first (number n) h e = number_first n h e
text_first (string s) h e = omega arith
text_first (array ds) h e = omega arith
text_first (object ms) h e = omega arith

-- no byte of a body is a control character
pub body-visible : (text : List ℕ) → IsBodyText text → list_all (λ b. nat_le 32 b) text ≡ true
body-visible text body = subst IsVisible (sym body.compact) (text_visible body.value body.profile.whole)

-- a body doesn't begin with a space
pub body-first : (text : List ℕ) → IsBodyText text → get_or text 0 0 ≢ 32
body-first text body = subst BeginsElse (sym body.compact) (text_first body.value body.profile.whole)

-- What `parse` reads of a numeral, and how numbers are written.
use Rattle.std.proofs.Common.{◌≡◌, ℕ, zero, suc, ◌<◌, ◌≤◌, ◌^◌, List, length, get_or, Bool, true, false, cond, ltb, leb, eqb, ◌&&◌, ◌||◌, not, Some, None, IfSome, Result, Ok, Err, refl, sym, ap, ◌∙◌, ⊎_elim, arith, rules}
use Rattle.std.specs.List.{list_all}
use Rattle.std.specs.Bool.{then_some}
use Rattle.std.specs.Result.{result_ok, OkIff}
use Rattle.std.specs.Fmt.{decimal}
use Rattle.std.specs.Str.Parse.{ParsesUnsigned}
use Rattle.std.proofs.lemmas.Str.Parse.{IsNumeralModel, numerals_by_fold, parse_digits}
use Rattle.std.proofs.lemmas.Fmt.{digits_decimal, digits_value-decimal, decimal-digits_value, decimal_nonempty, first_decimal, decimal_digit}
use Rattle.std.proofs.lemmas.Bool.{cases_lt}
use Rattle.std.proofs.lemmas.Bool.Decides.{nat_tests}
use Rattle.hub_text.specs.Number.{is_digit, value_after, is_numeral, number_of}

pub own : IsNumeralModel (λ ds. list_all is_digit ds ≡ true) (value_after 0)
own = numerals_by_fold _ (search rules) value_after (search rules)

first_true : (a b : Bool) → (a && b) ≡ true → a ≡ true
first_true true b h = refl
first_true false b h = h

second_true : (a b : Bool) → (a && b) ≡ true → b ≡ true
second_true true b h = h
second_true false b h = cc

both_true : (a b : Bool) → a ≡ true → b ≡ true → (a && b) ≡ true
both_true a b h k = ap (λ x. x && b) h ∙ k

digits : (word : List ℕ) → is_numeral word ≡ true → list_all is_digit word ≡ true
digits word h = second_true _ (list_all is_digit word) h

nonempty : (word : List ℕ) → is_numeral word ≡ true → 0 < length word
nonempty word h =
    let e = first_true (ltb 0 (length word)) _ (first_true _ (list_all is_digit word) h) in
    grind (arith, nat_tests)

short : (word : List ℕ) → is_numeral word ≡ true → get_or word 0 0 ≡ 48 → length word ≡ 1
short word h leading =
    let e = second_true (ltb 0 (length word)) (ltb (length word) 2 || not (eqb (get_or word 0 0) 48)) (first_true _ (list_all is_digit word) h) in
    let some = nonempty word h in
    grind (arith, nat_tests)

numeral : (word : List ℕ) → list_all is_digit word ≡ true → 0 < length word → (get_or word 0 0 ≡ 48 → length word ≡ 1) → is_numeral word ≡ true
numeral word all some one =
    let a : ltb 0 (length word) ≡ true = grind (arith, nat_tests) in
    let b : (ltb (length word) 2 || not (eqb (get_or word 0 0) 48)) ≡ true = grind (arith, nat_tests) in
    both_true _ (list_all is_digit word) (both_true _ _ a b) all

pub not_numeral : (max : ℕ) (word : List ℕ) → is_numeral word ≡ false → number_of max word ≡ None
unfolding number_of
not_numeral max word h = ap (λ t. cond (t && leb (value_after 0 word) max) (Some (value_after 0 word)) None) h

pub numeral_value : (max : ℕ) (word : List ℕ) → is_numeral word ≡ true → number_of max word ≡ cond (leb (value_after 0 word) max) (Some (value_after 0 word)) None
unfolding number_of
numeral_value max word h = ap (λ t. cond (t && leb (value_after 0 word) max) (Some (value_after 0 word)) None) h

below_limit : {E : Type 0} (v len max : ℕ) (r : Result ℕ E) → OkIff r ((0 < len) × (v < 2 ^ 64)) v → (n : ℕ) → result_ok r ≡ Some n → cond (leb v max) (Some v) None ≡ cond (leb n max) (Some n) None
below_limit v len max (Ok x) h n is =
    let same : x ≡ n = cc in
    let value : v ≡ n = sym h.1 ∙ same in
    ap (λ y. cond (leb y max) (Some y) None) value
below_limit v len max (Err e) h n is = absurd (let wrong : None ≡ Some n = is in cc)

past_limit : {E : Type 0} (v len max : ℕ) (r : Result ℕ E) → 0 < len → max < 2 ^ 64 → OkIff r ((0 < len) × (v < 2 ^ 64)) v → result_ok r ≡ None → cond (leb v max) (Some v) None ≡ None
past_limit v len max (Ok x) some fits h is = absurd (let wrong : Some x ≡ None = is in cc)
past_limit v len max (Err e) some fits h is =
    ⊎_elim (λ (lt : v < 2 ^ 64). absurd (h (some, lt))) (λ (ge : 2 ^ 64 ≤ v). let no : leb v max ≡ false = grind (arith, nat_tests) in ap (λ t. cond t (Some v) None) no) (cases_lt v (2 ^ 64))

-- a numeral that was parsed
pub parsed : {E : Type 0} (max n : ℕ) (word : List ℕ) (r : Result ℕ E) → is_numeral word ≡ true → ParsesUnsigned 64 10 word r → result_ok r ≡ Some n → number_of max word ≡ cond (leb n max) (Some n) None
parsed max n word r h p is =
    numeral_value max word h ∙ below_limit (value_after 0 word) (length word) max r (parse_digits own 64 word r p (digits word h)) n is

-- a numeral that wasn't is past each limit
pub past : {E : Type 0} (max : ℕ) (word : List ℕ) (r : Result ℕ E) → max < 2 ^ 64 → is_numeral word ≡ true → ParsesUnsigned 64 10 word r → result_ok r ≡ None → number_of max word ≡ None
past max word r fits h p is =
    numeral_value max word h ∙ past_limit (value_after 0 word) (length word) max r (nonempty word h) fits (parse_digits own 64 word r p (digits word h)) is

by_case : (b : Bool) (n : ℕ) → then_some b n ≡ cond b (Some n) None
by_case true n = refl
by_case false n = refl

pub chosen : (n max : ℕ) → then_some (leb n max) n ≡ cond (leb n max) (Some n) None
chosen n max = by_case (leb n max) n

one_digit : (n : ℕ) → n < 2 ^ 64 → get_or (decimal n) 0 0 ≡ 48 → length (decimal n) ≡ 1
one_digit zero lt first = ap length (decimal_digit 0 (omega arith))
one_digit (suc n) lt first =
    let later : 48 < get_or (decimal (suc n)) 0 0 = first_decimal (suc n) (omega arith) (omega arith) in
    absurd (omega arith)

-- each number within the limit is read where it is written
written : (max n : ℕ) → n ≤ max → max < 2 ^ 64 → number_of max (decimal n) ≡ Some n
written max n le fits =
    let small : n < 2 ^ 64 = omega arith in
    let is : is_numeral (decimal n) ≡ true = numeral (decimal n) (digits_decimal own n small) (decimal_nonempty n small) (one_digit n small) in
    let value : value_after 0 (decimal n) ≡ n = digits_value-decimal own n small in
    let yes : leb n max ≡ true = grind (arith, nat_tests) in
    numeral_value max (decimal n) is ∙ ap (λ v. cond (leb v max) (Some v) None) value ∙ ap (λ t. cond t (Some n) None) yes

pub written_is : (max n : ℕ) (word : List ℕ) → n ≤ max → max < 2 ^ 64 → word ≡ decimal n → number_of max word ≡ Some n
written_is max n word le fits e = ap (number_of max) e ∙ written max n le fits

as_written : (word : List ℕ) → is_numeral word ≡ true → value_after 0 word < 2 ^ 64 → decimal (value_after 0 word) ≡ word
as_written word h below = decimal-digits_value own word (digits word h) (nonempty word h) (short word h) below

found_within : (max : ℕ) (word : List ℕ) → max < 2 ^ 64 → is_numeral word ≡ true → (b : Bool) → leb (value_after 0 word) max ≡ b → IfSome (cond b (Some (value_after 0 word)) None) (λ n. (n ≤ max) × (word ≡ decimal n))
found_within max word fits h true le =
    let at_most : value_after 0 word ≤ max = grind (arith, nat_tests) in
    (at_most, sym (as_written word h (omega (arith, at_most, fits))))
found_within max word fits h false le = tt

found_at : (max : ℕ) (word : List ℕ) (b : Bool) → max < 2 ^ 64 → is_numeral word ≡ b → IfSome (number_of max word) (λ n. (n ≤ max) × (word ≡ decimal n))
found_at max word false fits h = rw (not_numeral max word h) tt
found_at max word true fits h = rw (numeral_value max word h) (found_within max word fits h (leb (value_after 0 word) max) refl)

-- what is read is how the number is written
pub found : (max : ℕ) (word : List ℕ) → max < 2 ^ 64 → IfSome (number_of max word) (λ n. (n ≤ max) × (word ≡ decimal n))
found max word fits = found_at max word (is_numeral word) fits refl

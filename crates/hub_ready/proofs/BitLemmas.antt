-- Bits of words.
use Rattle.std.proofs.Common.{◌≡◌, ◌≢◌, ◌⊎◌, ℕ, ◌+◌, ◌-◌, ◌*◌, ◌/◌, ◌%◌, ◌^◌, ◌<◌, ◌≤◌, List, Option, Some, None, length, get_or, set, bit_and, bit_or, ap, refl, ◌∙◌, sym, inl, inr, arith, w64, length-set, get_or-set_same, get_or-set_other}
use Rattle.std.proofs.lemmas.Bool.{cases_eq, cases_lt}
use Rattle.std.proofs.lemmas.List.{get_or_past}
use Rattle.std.proofs.lemmas.Nat.{shr-shr, and_le_l}
use Rattle.std.proofs.lemmas.Nat.Bits.{bit_at-zero, bit_at-trailing_zeros, bit_at_set_same, bit_at_set_other, bit_at_clear_same, bit_at_clear_other, bit_at_above, bit_at-lt}
use Rattle.std.specs.Int.{bit_at, bit_not, trailing_zeros}
use Rattle.hub_ready.specs.Marking.{mark_of, SameBut, HasGroupName, IsNextMarked, IsFirstFrom, ClearBetween}

-- a bit of a number that was moved down
pub moved : (n from bit : ℕ) → bit_at (n / 2 ^ from) bit ≡ bit_at n (from + bit)
moved n from bit = ap (λ x. x % 2) (shr-shr n from bit)

-- from this bit on no bit is set where nothing is left of the number moved down
pub moved-none : (n from : ℕ) → n / 2 ^ from ≡ 0 → (bit : ℕ) → from ≤ bit → bit_at n bit ≡ 0
moved-none n from none bit le =
    let there : from + (bit - from) ≡ bit = omega (arith, le) in
    sym (ap (bit_at n) there) ∙ sym (moved n from (bit - from)) ∙ ap (λ x. bit_at x (bit - from)) none ∙ bit_at-zero (bit - from)

module _ (n from : ℕ) (some : 0 < n / 2 ^ from) (fits : n / 2 ^ from < 2 ^ 64) where
  pub moved-set : bit_at n (from + trailing_zeros w64 (n / 2 ^ from)) ≡ 1
  moved-set = sym (moved n from (trailing_zeros w64 (n / 2 ^ from))) ∙ (bit_at-trailing_zeros w64 (n / 2 ^ from) some fits).1

  pub moved-small : n < 2 ^ 64 → from + trailing_zeros w64 (n / 2 ^ from) < 64
  moved-small small =
      elim (cases_lt (from + trailing_zeros w64 (n / 2 ^ from)) 64) [
        | inl inside ↦ inside
        | inr past ↦ absurd (let clear = bit_at_above n 64 (from + trailing_zeros w64 (n / 2 ^ from)) small past in let set = moved-set in omega (arith, clear, set))
      ]

  pub moved-clear : (bit : ℕ) → from ≤ bit → bit < from + trailing_zeros w64 (n / 2 ^ from) → bit_at n bit ≡ 0
  moved-clear bit le less =
      let there : from + (bit - from) ≡ bit = omega (arith, le) in
      sym (ap (bit_at n) there) ∙ sym (moved n from (bit - from)) ∙ (bit_at-trailing_zeros w64 (n / 2 ^ from) some fits).2 (bit - from) (omega (arith, le, less))

-- a word that keeps its other bits keeps the mark of each other key
others : (words : List ℕ) (key word : ℕ) → key / 64 < length words → ((bit : ℕ) → bit < 64 → bit ≢ key % 64 → bit_at word bit ≡ bit_at (get_or words (key / 64) 0) bit) → SameBut key words (set words (key / 64) word)
others words key word within kept = record {
  bits = length-set words _ _;
  words = λ other apart. get_or-set_other words (key / 64) other word 0 apart;
  others = λ other differs.
      elim (cases_eq (other / 64) (key / 64)) [
        | inl same ↦ rw (same, get_or-set_same words (key / 64) word 0 within) (kept (other % 64) (omega arith) (λ index. differs (omega arith)))
        | inr apart ↦ ap (λ n. bit_at n (other % 64)) (get_or-set_other words (key / 64) (other / 64) word 0 apart)
      ];
}

module _ (words : List ℕ) (key : ℕ) (within : key / 64 < length words) where
  pub set-set : mark_of (set words (key / 64) (bit_or (get_or words (key / 64) 0) (1 * 2 ^ (key % 64) % 2 ^ 64))) key ≡ 1
  set-set = ap (λ n. bit_at n (key % 64)) (get_or-set_same words (key / 64) _ 0 within) ∙ bit_at_set_same w64 (get_or words (key / 64) 0) (key % 64) (omega arith)

  pub set-others : SameBut key words (set words (key / 64) (bit_or (get_or words (key / 64) 0) (1 * 2 ^ (key % 64) % 2 ^ 64)))
  set-others = others words key _ within (λ bit below differs. bit_at_set_other w64 (get_or words (key / 64) 0) (key % 64) (omega arith) bit differs)

  pub clear-clear : mark_of (set words (key / 64) (bit_and (get_or words (key / 64) 0) (bit_not w64 (1 * 2 ^ (key % 64) % 2 ^ 64)))) key ≡ 0
  clear-clear = ap (λ n. bit_at n (key % 64)) (get_or-set_same words (key / 64) _ 0 within) ∙ bit_at_clear_same w64 (get_or words (key / 64) 0) (key % 64) (omega arith)

  pub clear-others : SameBut key words (set words (key / 64) (bit_and (get_or words (key / 64) 0) (bit_not w64 (1 * 2 ^ (key % 64) % 2 ^ 64))))
  clear-others = others words key _ within (λ bit below differs. bit_at_clear_other w64 (get_or words (key / 64) 0) (key % 64) (omega arith) bit below differs)

-- a word that has a bit isn't 0
pub not-none : (words : List ℕ) (key : ℕ) → mark_of words key ≡ 1 → get_or words (key / 64) 0 ≢ 0
not-none words key set none =
    let clear : mark_of words key ≡ 0 = ap (λ n. bit_at n (key % 64)) none ∙ bit_at-zero (key % 64) in
    absurd (omega (arith, set, clear))

-- names follow a bit that is set
pub named-set : (words names new more : List ℕ) (key : ℕ) → HasGroupName words names → mark_of new key ≡ 1 → SameBut key words new → mark_of more (key / 64) ≡ 1 → SameBut (key / 64) names more → HasGroupName new more
named-set words names new more key named set same name same_names = record {
  most = omega (arith, named.most, same.bits);
  few = omega (arith, named.few, same_names.bits);
  covered = omega (arith, named.covered, same.bits, same_names.bits);
  none = λ word clear.
      elim (cases_eq word (key / 64)) [
        | inl is ↦ absurd (let here : mark_of more (key / 64) ≡ 0 = sym (ap (mark_of more) is) ∙ clear in omega (arith, here, name))
        | inr apart ↦ same.words word apart ∙ named.none word (sym (same_names.others word apart) ∙ clear)
      ];
  some = λ word none.
      elim (cases_eq word (key / 64)) [
        | inl is ↦ absurd (not-none new key set (sym (ap (λ w. get_or new w 0) is) ∙ none))
        | inr apart ↦ same_names.others word apart ∙ named.some word (sym (same.words word apart) ∙ none)
      ];
}

-- zeros behind the words change nothing
pub grown : (words new : List ℕ) → ((word : ℕ) → word < length words → get_or new word 0 ≡ get_or words word 0) → ((word : ℕ) → length words ≤ word → get_or new word 0 ≡ 0) → (word : ℕ) → get_or new word 0 ≡ get_or words word 0
grown words new same zero word =
    elim (cases_lt word (length words)) [
      | inl inside ↦ same word inside
      | inr past ↦ zero word past ∙ sym (get_or_past words word 0 past)
    ]

-- a key in a word that has no name isn't marked
unnamed : (words names : List ℕ) (key : ℕ) → HasGroupName words names → mark_of names (key / 64) ≡ 0 → mark_of words key ≡ 0
unnamed words names key named clear = ap (λ n. bit_at n (key % 64)) (named.none (key / 64) clear) ∙ bit_at-zero (key % 64)

-- no key is marked from this one on where none is in its word, and no later word has a name
pub next-none : (words names : List ℕ) (from place : ℕ) → HasGroupName words names → ClearBetween words from (place * 64 + 64) → IsNextMarked names (place + 1) None → IsNextMarked words from None
next-none words names from place named here later key le =
    elim (cases_lt key (place * 64 + 64)) [
      | inl inside ↦ here key le inside
      | inr past ↦ unnamed words names key named (later (key / 64) (omega (arith, past)))
    ]

-- the first key of the first word that has a name
pub next-some : (words names : List ℕ) (from place word key : ℕ) → HasGroupName words names → from ≤ place * 64 + 64 → ClearBetween words from (place * 64 + 64) → IsFirstFrom names (place + 1) word → key / 64 ≡ word → IsFirstFrom words (word * 64 + 0) key → IsFirstFrom words from key
next-some words names from place word key named le here later is first = record {
  behind = omega (arith, le, later.behind, first.behind);
  set = first.set;
  clear = λ other behind before.
      elim (cases_lt other (place * 64 + 64)) [
        | inl inside ↦ here other behind inside
        | inr past ↦
            elim (cases_lt (other / 64) word) [
              | inl between ↦ unnamed words names other named (later.clear (other / 64) (omega (arith, past)) between)
              | inr there ↦ first.clear other (omega (arith, there)) before
            ]
      ];
}

-- a word that has a name has a bit
pub named-some : (words names : List ℕ) (from word : ℕ) → HasGroupName words names → IsFirstFrom names from word → get_or words word 0 ≡ 0 → ⊥
named-some words names from word named first none =
    let clear = named.some word none in
    omega (arith, clear, first.set)

pub next-by : (words names : List ℕ) (from place word : ℕ) (found : Option ℕ) → HasGroupName words names → from ≤ place * 64 + 64 → ClearBetween words from (place * 64 + 64) → IsFirstFrom names (place + 1) word
    → ((key : ℕ) → found ≡ Some key → (key / 64 ≡ word) × IsFirstFrom words (word * 64 + 0) key) → (found ≡ None → get_or words word 0 ≡ 0) → IsNextMarked words from found
next-by words names from place word None named le here later some none = λ key behind. absurd (named-some words names (place + 1) word named later (none refl))
next-by words names from place word (Some key) named le here later some none = next-some words names from place word key named le here later (some key refl).0 (some key refl).1

-- clearing a bit that is set makes the word smaller, and leaves the other bits
pub cleared : (word k : ℕ) → k < 64 → bit_at word k ≡ 1
    → let left = bit_and word (bit_not w64 (1 * 2 ^ k % 2 ^ 64)) in
    (left < word) × ((j : ℕ) → j < 64 → (j ≡ k → ⊥) → bit_at left j ≡ bit_at word j)
cleared word k within set =
    let left : ℕ = bit_and word (bit_not w64 (1 * 2 ^ k % 2 ^ 64)) in
    let gone : bit_at left k ≡ 0 = bit_at_clear_same w64 word k within in (
      elim (cases_eq left word) [
        | inl same ↦ absurd (let both : bit_at left k ≡ bit_at word k = ap (λ x. bit_at x k) same in omega (arith, both, gone, set))
        | inr other ↦ omega (arith, other, and_le_l word (bit_not w64 (1 * 2 ^ k % 2 ^ 64)))
      ],
      λ j small other. bit_at_clear_other w64 word k within j small other,
    )

-- a bit is clear or set
pub bit-cases : (n i : ℕ) → (bit_at n i ≡ 0) ⊎ (bit_at n i ≡ 1)
bit-cases n i =
    elim (cases_eq (bit_at n i) 0) [
      | inl clear ↦ inl clear
      | inr set ↦ inr (omega (arith, set, bit_at-lt n i))
    ]

-- What stands at the front of a text, piece by piece.
use Rattle.std.proofs.Common.{◌≡◌, ℕ, zero, suc, ◌+◌, ◌-◌, ◌^◌, ◌<◌, ◌≤◌, negsuc, List, [], ◌∷◌, ◌++◌, length, take, drop, get_or, true, false, not, Option, Some, None, IfSome, MatchOption, bytes_eq, refl, sym, ap, ◌∙◌, subst, arith, append_assoc}
use Rattle.std.proofs.lemmas.Fmt.{decimal_digit, decimal-digits_value}
use Rattle.std.proofs.lemmas.Grind.{common_steps, flat_map-append}
use Rattle.std.proofs.lemmas.List.{take-append-drop, get_or-take, length-take}
use Rattle.std.proofs.lemmas.Str.Parse.{digits_value_short}
use Rattle.std.proofs.lemmas.Slice.Eq.{bytes_eq-Decides}
use Rattle.std.proofs.Math.Seq.{drop-cons}
use Rattle.std.specs.Char.{is_ascii_digit}
use Rattle.std.specs.Fmt.{decimal}
use Rattle.std.specs.List.Sorted.{IsStrictlySortedBy}
use Rattle.std.specs.Str.Parse.{digits_value}
use Rattle.json.specs.Print.{quoted, escape, escape_byte}
use Rattle.json.specs.Run.{is_stop}
use Rattle.json.proofs.Printed.Plain.{escape_on_plain}
use Rattle.serde_json.specs.Data.{unsigned, negative, Data, null, boolean, number, string, array, object, Items, no_items, item, Members, no_members, member, items_depth, members_depth}
use Rattle.serde_json.specs.Written.{compact_text, items_text, members_text}
use Rattle.hub_envelope.specs.Everywhere.{InEachItem, InEachMember}
use Rattle.hub_envelope.specs.Compact.{IsSimple, IsFront, IsEscapeBefore, IsNumberBefore, IsAbove}
use Rattle.hub_envelope.proofs.Digits.{are_digits, own, both_true}
use Rattle.hub_envelope.proofs.ReadValues.{IsSorted, below_more}

pub weaker : {A : Type 0} (P Q : A → Type 0) (o : Option A) → ((a : A) → P a → Q a) → IfSome o P → IfSome o Q
weaker P Q None f h = tt
weaker P Q (Some a) f h = f a h

pub from_match : {A : Type 0} (N : Type 0) (P Q : A → Type 0) (o : Option A) → ((a : A) → P a → Q a) → MatchOption o N P → IfSome o Q
from_match N P Q None f h = tt
from_match N P Q (Some a) f h = f a h

-- a slice from an index on
pub from_index : (n : ℕ) (xs : List ℕ) → drop n xs ≡ take (length xs - n) (drop n xs)
from_index n xs = grind (arith, common_steps)

-- ---- strings

-- the first bytes, up to one of them, that one, and the others
cut_at : (xs : List ℕ) (k b : ℕ) → k < length xs → get_or xs k 0 ≡ b → xs ≡ take k xs ++ b ∷ drop (k + 1) xs
cut_at xs k b lt at =
    let next : suc k ≡ k + 1 = omega arith in
    sym (take-append-drop k xs) ∙ ap (λ ys. take k xs ++ ys) (drop-cons xs k 0 lt ∙ ap (λ c. c ∷ drop (suc k) xs) at ∙ ap (λ n. b ∷ drop n xs) next)

abbrev pub ArePlain : List ℕ → ℕ → Type 0
ArePlain text end = (k : ℕ) → k < end → is_stop (get_or text k 0) ≡ false

escape-plain : (text : List ℕ) (end : ℕ) → end < length text → ArePlain text end → escape (take end text) ≡ take end text
escape-plain text end lt plain =
    let long : length (take end text) ≡ end = omega (arith, length-take end text) in
    escape_on_plain true (take end text) (λ k from to. ap not (ap is_stop (get_or-take end text k 0 (omega (arith, long))) ∙ plain k (omega (arith, long))))

pub string_at : (text inside : List ℕ) (end : ℕ) → text ≡ 34 ∷ inside → end < length inside → get_or inside end 0 ≡ 34 → ArePlain inside end → text ≡ quoted (take end inside) ++ drop (end + 1) inside
string_at text inside end is lt quote plain =
    let s = take end inside in
    is
    ∙ ap (λ ys. 34 ∷ ys)
    (cut_at inside end 34 lt quote ∙ ap (λ t. t ++ 34 ∷ drop (end + 1) inside) (sym (escape-plain inside end lt plain)) ∙ sym (append_assoc (escape s) (34 ∷ []) (drop (end + 1) inside)))

-- the text is the rest of a string with its quote, and what stands behind that
pub record IsStringBefore (text rest : List ℕ) : Type 0 where
  pub bytes : List ℕ
  pub stands : text ≡ escape bytes ++ 34 ∷ rest

pub string_ends : (text : List ℕ) (end : ℕ) → end < length text → get_or text end 0 ≡ 34 → ArePlain text end → IsStringBefore text (drop (end + 1) text)
string_ends text end lt quote plain = record {
  bytes = take end text;
  stands = cut_at text end 34 lt quote ∙ ap (λ t. t ++ 34 ∷ drop (end + 1) text) (sym (escape-plain text end lt plain));
}

pub string_goes_on : (text after rest : List ℕ) (end : ℕ) → end < length text → get_or text end 0 ≡ 92 → ArePlain text end → IsEscapeBefore (92 ∷ drop (end + 1) text) after → IsStringBefore after rest → IsStringBefore text rest
string_goes_on text after rest end lt backslash plain escaped more =
    let before = take end text in
    let byte = escaped.0 in
    let one : escape (before ++ byte ∷ more.bytes) ≡ before ++ (escape_byte byte ++ escape more.bytes) =
    flat_map-append escape_byte before (byte ∷ more.bytes) ∙ ap (λ t. t ++ (escape_byte byte ++ escape more.bytes)) (escape-plain text end lt plain) in
    record {
      bytes = before ++ byte ∷ more.bytes;
      stands =
          cut_at text end 92 lt backslash
          ∙ ap (λ t. before ++ t) (escaped.1 ∙ ap (λ t. escape_byte byte ++ t) more.stands ∙ sym (append_assoc (escape_byte byte) (escape more.bytes) (34 ∷ rest)))
          ∙ sym (append_assoc before (escape_byte byte ++ escape more.bytes) (34 ∷ rest))
          ∙ ap (λ t. t ++ 34 ∷ rest) (sym one);
    }

pub front-string : (text rest : List ℕ) → IsStringBefore text rest → IsFront 0 (34 ∷ text) rest
front-string text rest string_is = record {
  value = string string_is.bytes;
  stands = ap (λ t. 34 ∷ t) (string_is.stands ∙ sym (append_assoc (escape string_is.bytes) (34 ∷ []) rest));
  simple = (tt, tt);
  nested = omega arith;
}

-- ---- numbers

digits_from : (ds : List ℕ) → ((k : ℕ) → k < length ds → is_ascii_digit (get_or ds k 0) ≡ true) → are_digits ds
digits_from [] h = refl
digits_from (d ∷ ds) h = both_true (is_ascii_digit d) _ (h 0 (omega arith)) (digits_from ds (λ k lt. h (suc k) (omega arith)))

zero_digit : decimal 0 ≡ 48 ∷ []
zero_digit = decimal_digit 0 (omega arith)

not_zero : (n : ℕ) (rest text : List ℕ) → n ≡ 0 → text ≡ decimal n ++ rest → get_or text 0 0 ≡ 48
not_zero n rest text none is = ap (λ t. get_or t 0 0) (is ∙ ap (λ m. decimal m ++ rest) none ∙ ap (λ ds. ds ++ rest) zero_digit)

pub number_at : (text : List ℕ) (count : ℕ) → count ≤ length text → 0 < count → count ≤ 18 → (get_or text 0 0 ≡ 48 → ⊥) → ((k : ℕ) → k < count → is_ascii_digit (get_or text k 0) ≡ true) → IsNumberBefore text (drop count text)
number_at text count within some short leads digits =
    let ds = take count text in
    let long : length ds ≡ count = omega (arith, length-take count text) in
    let are : are_digits ds = digits_from ds (λ k lt. ap is_ascii_digit (get_or-take count text k 0 (omega (arith, long))) ∙ digits k (omega (arith, long))) in
    let first : get_or ds 0 0 ≡ get_or text 0 0 = get_or-take count text 0 0 (omega arith) in
    let n = digits_value 10 ds in
    let small : n < 10 ^ 18 = digits_value_short own ds 18 are (omega (arith, long)) in
    let is : decimal n ≡ ds = decimal-digits_value own ds are (omega (arith, long)) (λ e. absurd (leads (sym first ∙ e))) (omega (arith, small)) in
    let stands : text ≡ decimal n ++ drop count text = sym (take-append-drop count text) ∙ ap (λ t. t ++ drop count text) (sym is) in
    let positive : n ≡ 0 → ⊥ = λ none. leads (not_zero n (drop count text) text none stands) in
    (n, omega (arith, positive), small, stands)

pub front-zero : (text rest : List ℕ) → text ≡ 48 ∷ rest → IsFront 0 text rest
front-zero text rest is = record { value = number (unsigned 0); stands = is ∙ ap (λ ds. ds ++ rest) (sym zero_digit); simple = (omega arith, tt); nested = omega arith }

pub front-positive : (text rest : List ℕ) → IsNumberBefore text rest → IsFront 0 text rest
front-positive text rest n = record { value = number (unsigned n.0); stands = n.3; simple = (n.2, tt); nested = omega arith }

negative_of : (n : ℕ) (digits rest : List ℕ) → 0 < n → n < 10 ^ 18 → digits ≡ decimal n ++ rest → IsFront 0 (45 ∷ digits) rest
negative_of zero digits rest some small is = absurd (omega (arith, some))
negative_of (suc n) digits rest some small is = record { value = number (negative (negsuc n)); stands = ap (λ t. 45 ∷ t) is; simple = (omega (arith, small), tt); nested = omega arith }

pub front-negative : (text digits rest : List ℕ) → text ≡ 45 ∷ digits → IsNumberBefore digits rest → IsFront 0 text rest
front-negative text digits rest is n = subst (λ t. IsFront 0 t rest) (sym is) (negative_of n.0 digits rest n.1 n.2 n.3)

-- ---- other scalars

pub word_at : (text rest word : List ℕ) (first b : ℕ) → text ≡ first ∷ rest → first ≡ b → bytes_eq (take (length word) rest) word ≡ true → text ≡ b ∷ (word ++ drop (length word) rest)
word_at text rest word first b is at same =
    let front : take (length word) rest ≡ word = (bytes_eq-Decides (take (length word) rest) word).0 same in
    is ∙ ap (λ c. c ∷ rest) at ∙ ap (λ t. b ∷ t) (sym (take-append-drop (length word) rest) ∙ ap (λ w. w ++ drop (length word) rest) front)

pub front-null : (levels : ℕ) (text rest : List ℕ) → text ≡ 110 ∷ 117 ∷ 108 ∷ 108 ∷ rest → IsFront levels text rest
front-null levels text rest is = record { value = null; stands = is; simple = (tt, tt); nested = omega arith }

pub front-true : (levels : ℕ) (text rest : List ℕ) → text ≡ 116 ∷ 114 ∷ 117 ∷ 101 ∷ rest → IsFront levels text rest
front-true levels text rest is = record { value = boolean true; stands = is; simple = (tt, tt); nested = omega arith }

pub front-false : (levels : ℕ) (text rest : List ℕ) → text ≡ 102 ∷ 97 ∷ 108 ∷ 115 ∷ 101 ∷ rest → IsFront levels text rest
front-false levels text rest is = record { value = boolean false; stands = is; simple = (tt, tt); nested = omega arith }

-- ---- arrays

-- at the front of the text stand an array's items, one at least, and its closing bracket
pub record AreItemsBefore (levels : ℕ) (text rest : List ℕ) : Type 0 where
  pub first : Data
  pub others : Items
  pub stand : text ≡ compact_text first ++ (items_text true others ++ rest)
  pub simple : InEachItem IsSimple (item first others)
  pub nested : items_depth (item first others) ≤ levels

pub last_item : (levels : ℕ) (text rest : List ℕ) → IsFront levels text (93 ∷ rest) → AreItemsBefore levels text rest
last_item levels text rest front = record { first = front.value; others = no_items; stand = front.stands; simple = (front.simple, tt); nested = omega (arith, front.nested) }

pub one_more_item : (levels : ℕ) (text after rest : List ℕ) → IsFront levels text (44 ∷ after) → AreItemsBefore levels after rest → AreItemsBefore levels text rest
one_more_item levels text after rest front more =
    let next = compact_text more.first in
    record {
      first = front.value;
      others = item more.first more.others;
      stand = front.stands ∙ ap (λ t. compact_text front.value ++ 44 ∷ t) (more.stand ∙ sym (append_assoc next (items_text true more.others) rest));
      simple = (front.simple, more.simple);
      nested = omega (arith, front.nested, more.nested);
    }

pub front-no_items : (levels : ℕ) (text rest : List ℕ) → text ≡ 93 ∷ rest → IsFront (levels + 1) (91 ∷ text) rest
front-no_items levels text rest is = record { value = array no_items; stands = ap (λ t. 91 ∷ t) is; simple = ((tt, tt), tt); nested = omega arith }

pub front-items : (levels : ℕ) (text rest : List ℕ) → AreItemsBefore levels text rest → IsFront (levels + 1) (91 ∷ text) rest
front-items levels text rest are = record {
  value = array (item are.first are.others);
  stands = ap (λ t. 91 ∷ t) (are.stand ∙ sym (append_assoc (compact_text are.first) (items_text true are.others) rest));
  simple = ((tt, tt), are.simple);
  nested = omega (arith, are.nested);
}

-- ---- objects

-- at the front of the text stand an object's members, one at least, and its closing brace
pub record AreMembersBefore (levels : ℕ) (before : Option (List ℕ)) (text rest : List ℕ) : Type 0 where
  pub key : List ℕ
  pub first : Data
  pub others : Members
  pub stand : text ≡ quoted key ++ 58 ∷ (compact_text first ++ (members_text true others ++ rest))
  pub simple : InEachMember IsSimple (member key first others)
  pub nested : members_depth (member key first others) ≤ levels
  pub sorted : IsSorted (member key first others)
  pub above : IsAbove before key

pub last_member : (levels : ℕ) (before : Option (List ℕ)) (text key value rest : List ℕ) → text ≡ quoted key ++ 58 ∷ value → IsFront levels value (125 ∷ rest) → IsAbove before key → AreMembersBefore levels before text rest
unfolding IsStrictlySortedBy
last_member levels before text key value rest is front above = record {
  key = key;
  first = front.value;
  others = no_members;
  stand = is ∙ ap (λ t. quoted key ++ 58 ∷ t) front.stands;
  simple = (front.simple, tt);
  nested = omega (arith, front.nested);
  sorted = (tt, tt);
  above = above;
}

regroup : (q a b c : List ℕ) → q ++ 58 ∷ (a ++ (b ++ c)) ≡ (q ++ 58 ∷ (a ++ b)) ++ c
regroup q a b c = ap (λ t. q ++ 58 ∷ t) (sym (append_assoc a b c)) ∙ sym (append_assoc q (58 ∷ (a ++ b)) c)

pub one_more_member : (levels : ℕ) (before : Option (List ℕ)) (text key value after rest : List ℕ) → text ≡ quoted key ++ 58 ∷ value → IsFront levels value (44 ∷ after) → IsAbove before key → AreMembersBefore levels (Some key) after rest → AreMembersBefore levels before text rest
unfolding IsStrictlySortedBy
one_more_member levels before text key value after rest is front above more = record {
  key = key;
  first = front.value;
  others = member more.key more.first more.others;
  stand = is ∙ ap (λ t. quoted key ++ 58 ∷ t) (front.stands ∙ ap (λ t. compact_text front.value ++ 44 ∷ t) (more.stand ∙ regroup (quoted more.key) (compact_text more.first) (members_text true more.others) rest));
  simple = (front.simple, more.simple);
  nested = omega (arith, front.nested, more.nested);
  sorted = ((more.above, below_more key more.key more.others more.above more.sorted.0), more.sorted);
  above = above;
}

pub front-no_members : (levels : ℕ) (text rest : List ℕ) → text ≡ 125 ∷ rest → IsFront (levels + 1) (123 ∷ text) rest
unfolding IsStrictlySortedBy
front-no_members levels text rest is = record { value = object no_members; stands = ap (λ t. 123 ∷ t) is; simple = ((tt, tt), tt); nested = omega arith }

pub front-members : (levels : ℕ) (text rest : List ℕ) → AreMembersBefore levels None text rest → IsFront (levels + 1) (123 ∷ text) rest
front-members levels text rest are = record {
  value = object (member are.key are.first are.others);
  stands = ap (λ t. 123 ∷ t) (are.stand ∙ regroup (quoted are.key) (compact_text are.first) (members_text true are.others) rest);
  simple = ((tt, are.sorted), are.simple);
  nested = omega (arith, are.nested);
}

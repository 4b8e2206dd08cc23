-- What holds of each part of a value that was read.
use Rattle.std.proofs.Common.{◌≡◌, ℕ, List, Bool, true, false, ◌||◌, Option, Some, None, option_map, option_and_then, IfSome, Ordering, Less, Equal, Greater, nat_cmp, refl, ap, ◌∙◌, subst, true≢false}
use Rattle.std.proofs.lemmas.Cmp.{nat_list_cmp_total}
use Rattle.std.specs.Cmp.Lexicographic.{slice_cmp}
use Rattle.std.specs.List.{AllByRecursion}
use Rattle.std.specs.List.Sorted.{IsStrictlySortedBy}
use Rattle.std.specs.Ordering.{match_ordering, ordering_reverse}
use Rattle.json.specs.Lex.{tokens}
use Rattle.json.specs.Json as json
use Rattle.serde_json.specs.Data.{Num, Data, null, boolean, number, string, array, object, Items, no_items, item, Members, no_members, member, put}
use Rattle.serde_json.specs.Read.{number_of, of_json, of_items, of_members, max_depth, read}
use Rattle.serde_json.specs.Written.{has_float, items_have_float, members_have_float}
use Rattle.hub_envelope.specs.Everywhere.{Everywhere, InEachItem, InEachMember}
use Rattle.hub_envelope.specs.KeyOrder.{keys_of, HasSortedKeys, IsKeyOrdered}
use Rattle.hub_envelope.specs.Whole.{IsWholeNumber, IsWhole}
use Rattle.hub_envelope.proofs.ReadNumbers.{number_of-fits, is_float-fits}

-- ---- keys in byte order

abbrev pub compare_keys : List ℕ → List ℕ → Ordering
compare_keys = slice_cmp nat_cmp

abbrev pub IsSorted : Members → Type 0
IsSorted ms = IsStrictlySortedBy compare_keys (keys_of ms)

abbrev pub IsBelowKeys : List ℕ → Members → Type 0
IsBelowKeys k ms = AllByRecursion (λ l. compare_keys k l ≡ Less) (keys_of ms)

pub below_more : (k l : List ℕ) (ms : Members) → compare_keys k l ≡ Less → IsBelowKeys l ms → IsBelowKeys k ms
below_more k l no_members below h = tt
below_more k l (member m d ms) below h = (nat_list_cmp_total.trans k l m below h.0, below_more k l ms below h.1)

below-match_ordering : (o : Ordering) (l : List ℕ) (a b c : Members) → IsBelowKeys l a → IsBelowKeys l b → IsBelowKeys l c → IsBelowKeys l (match_ordering o a b c)
below-match_ordering Less l a b c p q r = p
below-match_ordering Equal l a b c p q r = q
below-match_ordering Greater l a b c p q r = r

below-put : (l k : List ℕ) (d : Data) (ms : Members) → compare_keys l k ≡ Less → IsBelowKeys l ms → IsBelowKeys l (put k d ms)
below-put l k d no_members below h = (below, tt)
below-put l k d (member m e ms) below h =
    below-match_ordering (compare_keys k m) l (member k d (member m e ms)) (member m d ms) (member m e (put k d ms)) (below, h) h (h.0, below-put l k d ms below h.1)

sorted-put_at : (o : Ordering) (k l : List ℕ) (d e : Data) (ms : Members) → compare_keys k l ≡ o → IsSorted (member l e ms) → IsSorted (put k d ms)
    → IsSorted (match_ordering o (member k d (member l e ms)) (member l d ms) (member l e (put k d ms)))
unfolding IsStrictlySortedBy
sorted-put_at Less k l d e ms is h later = ((is, below_more k l ms is h.0), h)
sorted-put_at Equal k l d e ms is h later = h
sorted-put_at Greater k l d e ms is h later =
    let below : compare_keys l k ≡ Less = nat_list_cmp_total.antisymm l k ∙ ap ordering_reverse is in
    (below-put l k d ms below h.0, later)

sorted-put : (k : List ℕ) (d : Data) (ms : Members) → IsSorted ms → IsSorted (put k d ms)
unfolding IsStrictlySortedBy
sorted-put k d no_members h = (tt, tt)
sorted-put k d (member l e ms) h = sorted-put_at (compare_keys k l) k l d e ms refl h (sorted-put k d ms h.1)

no_members-sorted : IsSorted no_members
unfolding IsStrictlySortedBy
no_members-sorted = tt

-- ---- a fact that holds of whatever is read

-- the fact holds of a number that was read, of an object whose keys are sorted, and of all else
pub record HoldsOfRead (P : Data → Type 0) : Type 0 where
  pub nulls : P null
  pub booleans : (b : Bool) → P (boolean b)
  pub numbers : (s : List ℕ) (n : Num) → number_of s ≡ Some n → P (number n)
  pub strings : (s : List ℕ) → P (string s)
  pub arrays : (ds : Items) → P (array ds)
  pub objects : (ms : Members) → IsSorted ms → P (object ms)

under_map : {A B : Type 0} (P : A → Type 0) (Q : B → Type 0) (f : A → B) (o : Option A) → ((a : A) → o ≡ Some a → P a → Q (f a)) → IfSome o P → IfSome (option_map f o) Q
under_map P Q f None k h = tt
under_map P Q f (Some a) k h = k a refl h

under_then : {A B : Type 0} (P : A → Type 0) (Q : B → Type 0) (f : A → Option B) (o : Option A) → ((a : A) → P a → IfSome (f a) Q) → IfSome o P → IfSome (option_and_then f o) Q
under_then P Q f None k h = tt
under_then P Q f (Some a) k h = k a h

anything : {A : Type 0} (o : Option A) → IfSome o (λ _. Unit {0})
anything None = tt
anything (Some a) = tt

InEachMember-match_ordering : (P : Data → Type 0) (o : Ordering) (a b c : Members) → InEachMember P a → InEachMember P b → InEachMember P c → InEachMember P (match_ordering o a b c)
InEachMember-match_ordering P Less a b c p q r = p
InEachMember-match_ordering P Equal a b c p q r = q
InEachMember-match_ordering P Greater a b c p q r = r

InEachMember-put : (P : Data → Type 0) (k : List ℕ) (d : Data) (ms : Members) → Everywhere P d → InEachMember P ms → InEachMember P (put k d ms)
InEachMember-put P k d no_members here h = (here, tt)
InEachMember-put P k d (member l e ms) here h =
    InEachMember-match_ordering P (compare_keys k l) (member k d (member l e ms)) (member l d ms) (member l e (put k d ms)) (here, h) (here, h.1) (h.0, InEachMember-put P k d ms here h.1)

abbrev AreMembers : (Data → Type 0) → Members → Type 0
AreMembers P ms = InEachMember P ms × IsSorted ms

mutual
  Everywhere-of_json : (P : Data → Type 0) → HoldsOfRead P → (j : json.Json) → IfSome (of_json j) (Everywhere P)
  Everywhere-of_json P h json.null = h.nulls
  Everywhere-of_json P h (json.boolean b) = h.booleans b
  Everywhere-of_json P h (json.number s) = under_map (λ _. Unit {0}) (Everywhere P) number (number_of s) (λ n is _. h.numbers s n is) (anything (number_of s))
  Everywhere-of_json P h (json.string s) = h.strings s
  Everywhere-of_json P h (json.array js) = under_map (InEachItem P) (Everywhere P) array (of_items js) (λ ds _ each. (h.arrays ds, each)) (InEachItem-of_items P h js)
  Everywhere-of_json P h (json.object ms) = under_map (AreMembers P) (Everywhere P) object (of_members ms no_members) (λ found _ each. (h.objects found each.1, each.0)) (AreMembers-of_members P h ms no_members (tt, no_members-sorted))

  InEachItem-of_items : (P : Data → Type 0) → HoldsOfRead P → (js : json.Items) → IfSome (of_items js) (InEachItem P)
  InEachItem-of_items P h json.no_items = tt
  InEachItem-of_items P h (json.item j js) = under_then (Everywhere P) (InEachItem P) _ (of_json j) (λ d here. under_map (InEachItem P) (InEachItem P) (item d) (of_items js) (λ ds _ each. (here, each)) (InEachItem-of_items P h js)) (Everywhere-of_json P h j)

  AreMembers-of_members : (P : Data → Type 0) → HoldsOfRead P → (ms : json.Members) (found : Members) → AreMembers P found → IfSome (of_members ms found) (AreMembers P)
  AreMembers-of_members P h json.no_members found are = are
  AreMembers-of_members P h (json.member k j ms) found are = under_then (Everywhere P) (AreMembers P) _ (of_json j) (λ d here. AreMembers-of_members P h ms (put k d found) (InEachMember-put P k d found here are.0, sorted-put k d found are.1)) (Everywhere-of_json P h j)

-- what a text is in the grammar of JSON
abbrev json_of : List ℕ → Option json.Json
json_of text = option_and_then (λ p. json.if_last p.0 p.1) (json.value max_depth (tokens text))

pub Everywhere-read : (P : Data → Type 0) → HoldsOfRead P → (text : List ℕ) (d : Data) → read text ≡ Some d → Everywhere P d
Everywhere-read P h text d e =
    subst (λ (o : Option Data). IfSome o (Everywhere P)) e (under_then (λ _. Unit {0}) (Everywhere P) of_json (json_of text) (λ j _. Everywhere-of_json P h j) (anything (json_of text)))

-- ---- of what was read: keys are in order, and numbers are whole where none is a float

pub IsKeyOrdered-read : (text : List ℕ) (d : Data) → read text ≡ Some d → IsKeyOrdered d
IsKeyOrdered-read = Everywhere-read HasSortedKeys (record { nulls = tt; booleans = λ b. tt; numbers = λ s n e. tt; strings = λ s. tt; arrays = λ ds. tt; objects = λ ms h. h })

abbrev IsWholeOrFloat : Data → Type 0
IsWholeOrFloat d = has_float d ≡ false → IsWholeNumber d

or-false_left : (a b : Bool) → (a || b) ≡ false → a ≡ false
or-false_left true b e = absurd (true≢false e)
or-false_left false b e = refl

or-false_right : (a b : Bool) → (a || b) ≡ false → b ≡ false
or-false_right true b e = absurd (true≢false e)
or-false_right false b e = e

mutual
  whole_without_float : (d : Data) → Everywhere IsWholeOrFloat d → has_float d ≡ false → IsWhole d
  whole_without_float null h e = tt
  whole_without_float (boolean b) h e = tt
  whole_without_float (number n) h e = h e
  whole_without_float (string s) h e = tt
  whole_without_float (array ds) h e = (tt, items_whole_without_float ds h.1 e)
  whole_without_float (object ms) h e = (tt, members_whole_without_float ms h.1 e)

  items_whole_without_float : (ds : Items) → InEachItem IsWholeOrFloat ds → items_have_float ds ≡ false → InEachItem IsWholeNumber ds
  items_whole_without_float no_items h e = tt
  items_whole_without_float (item d ds) h e = (whole_without_float d h.0 (or-false_left _ _ e), items_whole_without_float ds h.1 (or-false_right _ _ e))

  members_whole_without_float : (ms : Members) → InEachMember IsWholeOrFloat ms → members_have_float ms ≡ false → InEachMember IsWholeNumber ms
  members_whole_without_float no_members h e = tt
  members_whole_without_float (member k d ms) h e = (whole_without_float d h.0 (or-false_left _ _ e), members_whole_without_float ms h.1 (or-false_right _ _ e))

pub IsWhole-read : (text : List ℕ) (d : Data) → read text ≡ Some d → has_float d ≡ false → IsWhole d
IsWhole-read text d e none = whole_without_float d (Everywhere-read IsWholeOrFloat (record { nulls = λ _. tt; booleans = λ b _. tt; numbers = number_of-fits; strings = λ s _. tt; arrays = λ ds _. tt; objects = λ ms h _. tt }) text d e) none

-- ---- a value with a float is not whole

or-both_false : (a b : Bool) → a ≡ false → b ≡ false → (a || b) ≡ false
or-both_false true b e f = absurd (true≢false e)
or-both_false false b e f = f

mutual
  pub has_float-whole : (d : Data) → IsWhole d → has_float d ≡ false
  has_float-whole null h = refl
  has_float-whole (boolean b) h = refl
  has_float-whole (number n) h = is_float-fits n h
  has_float-whole (string s) h = refl
  has_float-whole (array ds) h = items_have_float-whole ds h.1
  has_float-whole (object ms) h = members_have_float-whole ms h.1

  items_have_float-whole : (ds : Items) → InEachItem IsWholeNumber ds → items_have_float ds ≡ false
  items_have_float-whole no_items h = refl
  items_have_float-whole (item d ds) h = or-both_false (has_float d) (items_have_float ds) (has_float-whole d h.0) (items_have_float-whole ds h.1)

  members_have_float-whole : (ms : Members) → InEachMember IsWholeNumber ms → members_have_float ms ≡ false
  members_have_float-whole no_members h = refl
  members_have_float-whole (member k d ms) h = or-both_false (has_float d) (members_have_float ms) (has_float-whole d h.0) (members_have_float-whole ms h.1)

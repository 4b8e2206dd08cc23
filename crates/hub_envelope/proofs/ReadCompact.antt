-- The compact text of a simple value reads as that value.
use Rattle.std.proofs.Common.{◌≡◌, ℕ, suc, max, pos, negsuc, ◌^◌, ◌<◌, ◌≤◌, List, [], ◌++◌, length, IsUtf8, Option, Some, option_map, option_and_then, Less, Greater, refl, sym, ap, ap₂, ◌∙◌, subst, arith, append-nil}
use Rattle.std.proofs.lemmas.Cmp.{nat_list_cmp_total}
use Rattle.std.proofs.lemmas.Int.{ints}
use Rattle.std.specs.List.Sorted.{IsStrictlySortedBy}
use Rattle.std.specs.Ordering.{ordering_reverse}
use Rattle.json.specs.Token.{Token}
use Rattle.json.specs.Lex.{tokens}
use Rattle.json.specs.Print.{IsNumber}
use Rattle.json.specs.Json as json
use Rattle.json.specs.Tree as tree
use Rattle.json.proofs.Printed.Decimals.{IsNumber-decimal, IsNumber-signed_decimal}
use Rattle.json.proofs.Printed.Tokens.{tokens-print}
use Rattle.json.proofs.Printed.Trees.{value-json_tokens, ArePrintable-json_tokens}
use Rattle.serde_json.specs.Data.{Num, unsigned, negative, float, Data, null, boolean, number, string, array, object, Items, no_items, item, Members, no_members, member, put, depth, items_depth, members_depth}
use Rattle.serde_json.specs.Read.{number_of, of_json, of_items, of_members, max_depth, read}
use Rattle.serde_json.specs.Written.{number_text, outline, items_outline, members_outline, compact_text}
use Rattle.serde_json.proofs.Numbers.{number_of-decimal, number_of-negative}
use Rattle.serde_json.proofs.Texts.{print-outline}
use Rattle.hub_envelope.specs.Everywhere.{Everywhere, InEachItem, InEachMember}
use Rattle.hub_envelope.specs.KeyOrder.{HasSortedKeys}
use Rattle.hub_envelope.specs.Whole.{IsWholeNumber}
use Rattle.hub_envelope.specs.BodyText.{IsBodyText}
use Rattle.hub_envelope.specs.Compact.{IsShort, IsSimple, IsCompact}
use Rattle.hub_envelope.specs.declared.limits.TheConstants.{MAX_BODY_BYTES}
use Rattle.hub_envelope.proofs.ReadValues.{compare_keys, IsSorted, IsBelowKeys}

-- ---- numbers

IsNumber-short : (n : Num) → IsShort n → IsNumber (number_text n)
IsNumber-short (unsigned n) h = IsNumber-decimal n (omega arith)
IsNumber-short (negative (pos n)) h = absurd h
IsNumber-short (negative (negsuc n)) h = IsNumber-signed_decimal (negsuc n) (omega arith)
IsNumber-short (float x) h = absurd h

number_of-short : (n : Num) → IsShort n → number_of (number_text n) ≡ Some n
number_of-short (unsigned n) h = number_of-decimal n (omega arith)
number_of-short (negative (pos n)) h = absurd h
number_of-short (negative (negsuc n)) h = number_of-negative n (omega arith)
number_of-short (float x) h = absurd h

-- ---- the outline of a value has its numbers, and nests as deep

mutual
  HasNumbers-outline : (d : Data) → Everywhere IsSimple d → tree.HasNumbers (outline d)
  HasNumbers-outline null h = tt
  HasNumbers-outline (boolean b) h = tt
  HasNumbers-outline (number n) h = IsNumber-short n h.0
  HasNumbers-outline (string s) h = tt
  HasNumbers-outline (array ds) h = ItemsHaveNumbers-outline ds h.1
  HasNumbers-outline (object ms) h = MembersHaveNumbers-outline ms h.1

  ItemsHaveNumbers-outline : (ds : Items) → InEachItem IsSimple ds → tree.ItemsHaveNumbers (items_outline ds)
  ItemsHaveNumbers-outline no_items h = tt
  ItemsHaveNumbers-outline (item d ds) h = (HasNumbers-outline d h.0, ItemsHaveNumbers-outline ds h.1)

  MembersHaveNumbers-outline : (ms : Members) → InEachMember IsSimple ms → tree.MembersHaveNumbers (members_outline ms)
  MembersHaveNumbers-outline no_members h = tt
  MembersHaveNumbers-outline (member k d ms) h = (HasNumbers-outline d h.0, MembersHaveNumbers-outline ms h.1)

mutual
  depth-outline : (d : Data) → tree.depth (outline d) ≡ depth d
  depth-outline null = refl
  depth-outline (boolean b) = refl
  depth-outline (number n) = refl
  depth-outline (string s) = refl
  depth-outline (array ds) = ap suc (items_depth-outline ds)
  depth-outline (object ms) = ap suc (members_depth-outline ms)

  items_depth-outline : (ds : Items) → tree.items_depth (items_outline ds) ≡ items_depth ds
  items_depth-outline no_items = refl
  items_depth-outline (item d ds) = ap₂ max (depth-outline d) (items_depth-outline ds)

  members_depth-outline : (ms : Members) → tree.members_depth (members_outline ms) ≡ members_depth ms
  members_depth-outline no_members = refl
  members_depth-outline (member k d ms) = ap₂ max (depth-outline d) (members_depth-outline ms)

-- ---- the outline reads as the value

-- the members, and then others
abbrev joined : Members → Members → Members
joined no_members more = more
joined (member k d ms) more = member k d (joined ms more)

joined-no_members : (ms : Members) → joined ms no_members ≡ ms
joined-no_members no_members = refl
joined-no_members (member k d ms) = ap (member k d) (joined-no_members ms)

joined-member : (found : Members) (k : List ℕ) (d : Data) (ms : Members) → joined (joined found (member k d no_members)) ms ≡ joined found (member k d ms)
joined-member no_members k d ms = refl
joined-member (member l e found) k d ms = ap (member l e) (joined-member found k d ms)

below_joined : (l : List ℕ) (found : Members) (k : List ℕ) (d : Data) (ms : Members) → IsBelowKeys l (joined found (member k d ms)) → compare_keys l k ≡ Less
below_joined l no_members k d ms h = h.0
below_joined l (member m e found) k d ms h = below_joined l found k d ms h.1

-- a key above those before it goes last
put-last : (found : Members) (k : List ℕ) (d : Data) (ms : Members) → IsSorted (joined found (member k d ms)) → put k d found ≡ joined found (member k d no_members)
unfolding IsStrictlySortedBy
put-last no_members k d ms h = refl
put-last (member l e found) k d ms h =
    let above : compare_keys k l ≡ Greater = nat_list_cmp_total.antisymm k l ∙ ap ordering_reverse (below_joined l found k d ms h.0) in
    rw above (ap (member l e) (put-last found k d ms h.1))

mutual
  of_json-outline : (d : Data) → Everywhere IsSimple d → of_json (outline d) ≡ Some d
  of_json-outline null h = refl
  of_json-outline (boolean b) h = refl
  of_json-outline (number n) h = ap (option_map number) (number_of-short n h.0)
  of_json-outline (string s) h = refl
  of_json-outline (array ds) h = ap (option_map array) (of_items-outline ds h.1)
  of_json-outline (object ms) h = ap (option_map object) (of_members-outline ms no_members h.1 h.0.1)

  of_items-outline : (ds : Items) → InEachItem IsSimple ds → of_items (items_outline ds) ≡ Some ds
  of_items-outline no_items h = refl
  of_items-outline (item d ds) h =
      ap (option_and_then (λ e. option_map (item e) (of_items (items_outline ds)))) (of_json-outline d h.0) ∙ ap (option_map (item d)) (of_items-outline ds h.1)

  of_members-outline : (ms found : Members) → InEachMember IsSimple ms → IsSorted (joined found ms) → of_members (members_outline ms) found ≡ Some (joined found ms)
  of_members-outline no_members found h sorted = ap Some (sym (joined-no_members found))
  of_members-outline (member k d ms) found h sorted =
      let later = joined-member found k d ms in
      ap (option_and_then (λ e. of_members (members_outline ms) (put k e found))) (of_json-outline d h.0)
      ∙ ap (of_members (members_outline ms)) (put-last found k d ms sorted)
      ∙ of_members-outline ms (joined found (member k d no_members)) h.1 (subst IsSorted (sym later) sorted)
      ∙ ap Some later

abbrev whole : Option (json.Json × List Token) → Option Data
whole o = option_and_then of_json (option_and_then (λ p. json.if_last p.0 p.1) o)

read-compact_text : (d : Data) → Everywhere IsSimple d → depth d ≤ max_depth → read (compact_text d) ≡ Some d
read-compact_text d simple shallow =
    let j = outline d in
    let printed : tokens (compact_text d) ≡ tree.json_tokens j ++ [] =
    ap tokens (sym (print-outline d)) ∙ tokens-print (tree.json_tokens j) (ArePrintable-json_tokens j (HasNumbers-outline d simple)) ∙ sym (append-nil (tree.json_tokens j)) in
    ap whole (ap (json.value max_depth) printed ∙ value-json_tokens j max_depth [] (omega (arith, depth-outline d))) ∙ of_json-outline d simple

-- ---- a compact text is a body's

mutual
  Everywhere-map : (P Q : Data → Type 0) → ((d : Data) → P d → Q d) → (d : Data) → Everywhere P d → Everywhere Q d
  Everywhere-map P Q f null h = f null h
  Everywhere-map P Q f (boolean b) h = f (boolean b) h
  Everywhere-map P Q f (number n) h = f (number n) h
  Everywhere-map P Q f (string s) h = f (string s) h
  Everywhere-map P Q f (array ds) h = (f (array ds) h.0, InEachItem-map P Q f ds h.1)
  Everywhere-map P Q f (object ms) h = (f (object ms) h.0, InEachMember-map P Q f ms h.1)

  InEachItem-map : (P Q : Data → Type 0) → ((d : Data) → P d → Q d) → (ds : Items) → InEachItem P ds → InEachItem Q ds
  InEachItem-map P Q f no_items h = tt
  InEachItem-map P Q f (item d ds) h = (Everywhere-map P Q f d h.0, InEachItem-map P Q f ds h.1)

  InEachMember-map : (P Q : Data → Type 0) → ((d : Data) → P d → Q d) → (ms : Members) → InEachMember P ms → InEachMember Q ms
  InEachMember-map P Q f no_members h = tt
  InEachMember-map P Q f (member k d ms) h = (Everywhere-map P Q f d h.0, InEachMember-map P Q f ms h.1)

whole-simple : (d : Data) → IsSimple d → IsWholeNumber d
whole-simple null h = tt
whole-simple (boolean b) h = tt
whole-simple (number (unsigned n)) h = let small : n < 10 ^ 18 = h.0 in omega arith
whole-simple (number (negative (pos n))) h = absurd h.0
whole-simple (number (negative (negsuc n))) h = let small : suc n < 10 ^ 18 = omega (arith, h.0) in omega (arith, ints)
whole-simple (number (float x)) h = absurd h.0
whole-simple (string s) h = tt
whole-simple (array ds) h = tt
whole-simple (object ms) h = tt

pub IsBodyText-compact : (text : List ℕ) → IsUtf8 text → IsCompact text → length text ≤ MAX_BODY_BYTES → IsBodyText text
IsBodyText-compact text utf8 front short =
    let d = front.value in
    let compact : text ≡ compact_text d = front.stands ∙ append-nil (compact_text d) in
    record {
      value = d;
      reads = ap read compact ∙ read-compact_text d front.simple (omega (arith, front.nested));
      profile = record {
        whole = Everywhere-map IsSimple IsWholeNumber whole-simple d front.simple;
        nested = front.nested;
        short = omega (arith, short, ap length compact);
        ordered = Everywhere-map IsSimple HasSortedKeys (λ e h. h.1) d front.simple;
      };
      compact = compact;
      utf8 = utf8;
    }

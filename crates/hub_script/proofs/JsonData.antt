-- The data that a JSON value stands for, and what is found in it.
use Rattle.std.proofs.Common.{◌≡◌, ℕ, pos, ◌≤◌, ◌&&◌, List, [], ◌++◌, Bool, true, false, cond, Option, Some, None, option_map, option_and_then, Ok, Err, Ordering, Less, Equal, Greater, nat_cmp, is_eq, refl, ap, sym, subst, ◌∙◌, arith, append-nil}
use Rattle.std.proofs.lemmas.Bool.{and_parts}
use Rattle.std.proofs.lemmas.Map.Text.{is_eq-slice_cmp}
use Rattle.std.specs.Cmp.Lexicographic.{bytes_decides, slice_cmp}
use Rattle.std.specs.List.{list_all}
use Rattle.std.specs.Ordering.{match_ordering}
use Rattle.std.specs.Prelude.{⊤, IfSome, is_some, unwrap_or}
use Rattle.std.specs.Str.{bytes_eq}
use Rattle.json.specs.Json as json
use Rattle.json.specs.Find as find
use Rattle.json.specs.Lex.{tokens}
use Rattle.json.specs.Print.{print}
use Rattle.json.specs.Token.{Token}
use Rattle.json.specs.Tree as tree
use Rattle.json.proofs.Printed.Tokens.{tokens-print}
use Rattle.json.proofs.Printed.Trees.{value-json_tokens, ArePrintable-json_tokens}
use Rattle.json.proofs.Numbered.{HasNumbers-get}
use Rattle.serde_json.specs.Data.{Num, negative, Data, number, array, object, item, Members, no_members, member, put}
use Rattle.serde_json.specs.Find.{get, get_member}
use Rattle.serde_json.specs.Read.{max_depth, number_of, of_json, of_items as items_of_json, of_members as members_of_json, read}
use Rattle.serde_json.proofs.Views.{get_member-put, get_member-put_other}
use Rattle.hub_text.specs.Reading.{some_or}
use Rattle.hub_script.specs.declared.error.ScriptError.TheVariants.{Syntax}
use Rattle.hub_script.specs.Fields.{ScriptRead, member_names}
use Rattle.hub_script.specs.JsonData.{IsWritable, data_of, are_numbers_in_range, items_in_range, items_of, read_json, members_in_range, members_of, json_names}

-- ---- a value is converted exactly where its numbers are in range

number_is : (o : Option Num) → option_map number o ≡ cond (is_some o) (Some (number (unwrap_or o (negative (pos 0))))) None
number_is None = refl
number_is (Some n) = refl

map_is : {A B : Type 0} (f : A → B) (b : Bool) (x : A) → option_map f (cond b (Some x) None) ≡ cond b (Some (f x)) None
map_is f true x = refl
map_is f false x = refl

then_is : {A B : Type 0} (f : A → Option B) (b c : Bool) (x : A) (y : B) → f x ≡ cond c (Some y) None → option_and_then f (cond b (Some x) None) ≡ cond (b && c) (Some y) None
then_is f true c x y h = h
then_is f false c x y h = refl

mutual
  converts : (j : json.Json) → of_json j ≡ cond (are_numbers_in_range j) (Some (data_of j)) None
  converts json.null = refl
  converts (json.boolean b) = refl
  converts (json.number s) = number_is (number_of s)
  converts (json.string s) = refl
  converts (json.array js) = ap (option_map array) (converts_items js) ∙ map_is array (items_in_range js) (items_of js)
  converts (json.object ms) = ap (option_map object) (converts_members ms no_members) ∙ map_is object (members_in_range ms) (members_of ms no_members)

  converts_items : (js : json.Items) → items_of_json js ≡ cond (items_in_range js) (Some (items_of js)) None
  converts_items json.no_items = refl
  converts_items (json.item j js) =
      let more = λ (d : Data). option_map (item d) (items_of_json js) in
      ap (option_and_then more) (converts j)
      ∙ then_is more (are_numbers_in_range j) (items_in_range js) (data_of j) (item (data_of j) (items_of js))
      (ap (option_map (item (data_of j))) (converts_items js) ∙ map_is (item (data_of j)) (items_in_range js) (items_of js))

  converts_members : (ms : json.Members) (found : Members) → members_of_json ms found ≡ cond (members_in_range ms) (Some (members_of ms found)) None
  converts_members json.no_members found = refl
  converts_members (json.member k j ms) found =
      let more = λ (d : Data). members_of_json ms (put k d found) in
      ap (option_and_then more) (converts j)
      ∙ then_is more (are_numbers_in_range j) (members_in_range ms) (data_of j) (members_of ms (put k (data_of j) found)) (converts_members ms (put k (data_of j) found))

in_range : (j : json.Json) → are_numbers_in_range j ≡ true → of_json j ≡ Some (data_of j)
in_range j h = converts j ∙ ap (λ (b : Bool). cond b (Some (data_of j)) None) h

out_of_range : (j : json.Json) → are_numbers_in_range j ≡ false → of_json j ≡ None
out_of_range j h = converts j ∙ ap (λ (b : Bool). cond b (Some (data_of j)) None) h

-- ---- what a text reads as, by the JSON value that it is

abbrev converted : Option json.Json → ScriptRead Data
converted o = some_or Syntax (option_and_then of_json o)

by_value : (o : Option json.Json) (j : json.Json) → some_or Syntax o ≡ Ok j → converted o ≡ converted (Some j)
by_value None j h = cc
by_value (Some i) j h = let same : i ≡ j = cc in ap (λ (x : json.Json). converted (Some x)) same

pub read_in_range : (text : List ℕ) (j : json.Json) → some_or Syntax (read_json text) ≡ Ok j → are_numbers_in_range j ≡ true → some_or Syntax (read text) ≡ Ok (data_of j)
read_in_range text j h g = by_value (read_json text) j h ∙ ap (λ (o : Option Data). some_or Syntax o) (in_range j g)

pub read_out_of_range : (text : List ℕ) (j : json.Json) → some_or Syntax (read_json text) ≡ Ok j → are_numbers_in_range j ≡ false → some_or Syntax (read text) ≡ Err Syntax
read_out_of_range text j h g = by_value (read_json text) j h ∙ ap (λ (o : Option Data). some_or Syntax o) (out_of_range j g)

-- ---- the field of a name is the last member of that name

later : {A : Type 0} → Option A → Option A → Option A
later None earlier = earlier
later (Some x) earlier = Some x

abbrev after : Option json.Json → Option Data → Option Data
after None earlier = earlier
after (Some j) earlier = Some (data_of j)

differ : (xs ys : List ℕ) → bytes_eq xs ys ≡ false → ys ≡ xs → ⊥
differ xs ys e same = let is : bytes_eq xs ys ≡ true = (bytes_decides xs ys).1 (sym same) in cc

one_put : (b : Bool) (name k : List ℕ) (j : json.Json) (found : Members) → bytes_eq k name ≡ b → get_member name (put k (data_of j) found) ≡ after (cond b (Some j) None) (get_member name found)
one_put true name k j found e = let same : k ≡ name = (bytes_decides k name).0 e in ap (λ n. get_member n (put k (data_of j) found)) (sym same) ∙ get_member-put k (data_of j) found
one_put false name k j found e = get_member-put_other name k (data_of j) found (differ k name e)

one_after : (o p : Option json.Json) (e f : Option Data) → f ≡ after p e → after o f ≡ after (find.later_or o p) e
one_after None p e f h = h
one_after (Some j) p e f h = refl

last_member : (name : List ℕ) (ms : json.Members) (found : Members) → get_member name (members_of ms found) ≡ after (find.get_member name ms) (get_member name found)
last_member name json.no_members found = refl
last_member name (json.member k j ms) found =
    last_member name ms (put k (data_of j) found)
    ∙ one_after (find.get_member name ms) (cond (bytes_eq k name) (Some j) None) (get_member name found) (get_member name (put k (data_of j) found)) (one_put (bytes_eq k name) name k j found refl)

after_none : (o : Option json.Json) → after o None ≡ option_map data_of o
after_none None = refl
after_none (Some j) = refl

pub get-data_of : (name : List ℕ) (j : json.Json) → get name (data_of j) ≡ option_map data_of (find.get name j)
get-data_of name json.null = refl
get-data_of name (json.boolean b) = refl
get-data_of name (json.number s) = refl
get-data_of name (json.string s) = refl
get-data_of name (json.array js) = refl
get-data_of name (json.object ms) = last_member name ms no_members ∙ after_none (find.get_member name ms)

pub mapped : {A B C : Type 0} (f : A → B) (g : B → C) (o : Option A) → option_map (λ a. g (f a)) o ≡ option_map g (option_map f o)
mapped f g None = refl
mapped f g (Some a) = refl

-- ---- the names are those of the members, each once

put_at : (p : List ℕ → Bool) (o : Ordering) (k l : List ℕ) (d e : Data) (ms : Members) → slice_cmp nat_cmp k l ≡ o → list_all p (member_names (put k d ms)) ≡ (p k && list_all p (member_names ms))
    → list_all p (member_names (match_ordering o (member k d (member l e ms)) (member l d ms) (member l e (put k d ms)))) ≡ (p k && (p l && list_all p (member_names ms)))
put_at p Less k l d e ms is more = refl
put_at p Equal k l d e ms is more =
    let same : k ≡ l = (bytes_decides k l).0 (sym (is_eq-slice_cmp k l) ∙ ap is_eq is) in
    twice (p l) (list_all p (member_names ms)) ∙ ap (λ n. p n && (p l && list_all p (member_names ms))) (sym same)
  where
    twice : (b c : Bool) → (b && c) ≡ (b && (b && c))
    twice true c = refl
    twice false c = refl
put_at p Greater k l d e ms is more = ap (λ b. p l && b) more ∙ swap (p l) (p k) (list_all p (member_names ms))
  where
    swap : (a b c : Bool) → (a && (b && c)) ≡ (b && (a && c))
    swap true true c = refl
    swap true false c = refl
    swap false true c = refl
    swap false false c = refl

all_put : (p : List ℕ → Bool) (k : List ℕ) (d : Data) (ms : Members) → list_all p (member_names (put k d ms)) ≡ (p k && list_all p (member_names ms))
all_put p k d no_members = refl
all_put p k d (member l e ms) = put_at p (slice_cmp nat_cmp k l) k l d e ms refl (all_put p k d ms)

all_of : (p : List ℕ → Bool) (ms : json.Members) (found : Members) → list_all p (member_names (members_of ms found)) ≡ (list_all p (json_names ms) && list_all p (member_names found))
all_of p json.no_members found = refl
all_of p (json.member k j ms) found = all_of p ms (put k (data_of j) found) ∙ ap (λ b. list_all p (json_names ms) && b) (all_put p k (data_of j) found) ∙ mixed (p k) (list_all p (json_names ms)) (list_all p (member_names found))
  where
    mixed : (a b c : Bool) → (b && (a && c)) ≡ ((a && b) && c)
    mixed true b c = refl
    mixed false true c = refl
    mixed false false c = refl

pub all_names : (p : List ℕ → Bool) (ms : json.Members) → list_all p (member_names (members_of ms no_members)) ≡ list_all p (json_names ms)
all_names p ms = all_of p ms no_members ∙ and_true (list_all p (json_names ms))
  where
    and_true : (b : Bool) → (b && true) ≡ b
    and_true true = refl
    and_true false = refl

-- ---- a value in a field is written as the whole is

abbrev Passes : (json.Json → Type 0) → Option json.Json → Type 0
Passes P None = ⊤
Passes P (Some j) = P j

passes_later : (P : json.Json → Type 0) (o p : Option json.Json) → Passes P o → Passes P p → Passes P (find.later_or o p)
passes_later P None p h g = g
passes_later P (Some j) p h g = h

passes_if : (P : json.Json → Type 0) (b : Bool) (j : json.Json) → P j → Passes P (cond b (Some j) None)
passes_if P true j h = h
passes_if P false j h = tt

abbrev Fits : json.Json → Type 0
Fits j = are_numbers_in_range j ≡ true

abbrev NestsWithin : ℕ → json.Json → Type 0
NestsWithin n j = tree.depth j ≤ n

members_fit : (name : List ℕ) (ms : json.Members) → members_in_range ms ≡ true → Passes Fits (find.get_member name ms)
members_fit name json.no_members h = tt
members_fit name (json.member k j ms) h =
    let parts = and_parts (are_numbers_in_range j) (members_in_range ms) h in
    passes_later Fits (find.get_member name ms) (cond (bytes_eq k name) (Some j) None) (members_fit name ms parts.1) (passes_if Fits (bytes_eq k name) j parts.0)

members_nest : (name : List ℕ) (ms : json.Members) (n : ℕ) → tree.members_depth ms ≤ n → Passes (NestsWithin n) (find.get_member name ms)
members_nest name json.no_members n h = tt
members_nest name (json.member k j ms) n h =
    passes_later (NestsWithin n) (find.get_member name ms) (cond (bytes_eq k name) (Some j) None) (members_nest name ms n (omega arith)) (passes_if (NestsWithin n) (bytes_eq k name) j (omega arith))

fits_in : (name : List ℕ) (j : json.Json) → are_numbers_in_range j ≡ true → Passes Fits (find.get name j)
fits_in name json.null h = tt
fits_in name (json.boolean b) h = tt
fits_in name (json.number s) h = tt
fits_in name (json.string s) h = tt
fits_in name (json.array js) h = tt
fits_in name (json.object ms) h = members_fit name ms h

nests_in : (name : List ℕ) (j : json.Json) (n : ℕ) → tree.depth j ≤ n → Passes (NestsWithin n) (find.get name j)
nests_in name json.null n h = tt
nests_in name (json.boolean b) n h = tt
nests_in name (json.number s) n h = tt
nests_in name (json.string s) n h = tt
nests_in name (json.array js) n h = tt
nests_in name (json.object ms) n h = members_nest name ms n (omega arith)

found : (P : json.Json → Type 0) (o : Option json.Json) (j : json.Json) → Some j ≡ o → Passes P o → P j
found P o j e h = subst (Passes P) (sym e) h

writable_part : (name : List ℕ) (j part : json.Json) → Some part ≡ find.get name j → IsWritable j → IsWritable part
writable_part name j part e h = record {
  numbers = HasNumbers-get name j part h.numbers e;
  in_range = found Fits (find.get name j) part e (fits_in name j h.in_range);
  nests = found (NestsWithin max_depth) (find.get name j) part e (nests_in name j max_depth h.nests);
}

-- a field that was found is written as the whole is
pub writable_field : {A : Type 0} (view : A → json.Json) (name : List ℕ) (j : json.Json) (o : Option A) → option_map view o ≡ find.get name j → IfSome o (λ v. IsWritable j → IsWritable (view v))
writable_field view name j None e = tt
writable_field view name j (Some v) e = writable_part name j (view v) e

-- what is written of a value reads as its data
pub reads_back : (j : json.Json) → IsWritable j → read (print (tree.json_tokens j)) ≡ Some (data_of j)
reads_back j h =
    let ts = tree.json_tokens j in
    let printed : tokens (print ts) ≡ ts ++ [] = tokens-print ts (ArePrintable-json_tokens j h.numbers) ∙ sym (append-nil ts) in
    let whole = λ (o : Option (json.Json × List Token)). option_and_then (λ p. json.if_last p.0 p.1) o in
    ap (option_and_then of_json) (ap whole (ap (json.value max_depth) printed ∙ value-json_tokens j max_depth [] h.nests)) ∙ in_range j h.in_range

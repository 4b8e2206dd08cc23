-- What a change of a reader's maps makes of what is known.
use Rattle.std.proofs.Common.{◌≡◌, ℕ, List, Bool, true, false, cond, ◌&&◌, ◌||◌, not, Some, String, refl, ap, ◌∙◌, arith}
use Rattle.std.specs.Prelude.{◌==◌}
use Rattle.std.specs.BTreeMap as tree
use Rattle.std.specs.BTreeMap.{BTreeMap, get_by_text}
use Rattle.std.specs.BTreeSet as sorted
use Rattle.std.specs.BTreeSet.{BTreeSet, contains}
use Rattle.std.specs.Cmp.Lexicographic.{slice_cmp}
use Rattle.std.specs.Ordering.{is_eq, nat_cmp, ordering_then}
use Rattle.std.specs.String.{string_bytes, string_cmp}
use Rattle.std.specs.declared.alloc.Global.{Global}
use Rattle.std.specs.declared.cmp.Ordering.{Ordering}
use Rattle.std.specs.declared.cmp.Ordering.TheVariants.{Less, Equal, Greater}
use Rattle.std.proofs.lemmas.Bool.Decides.{nat_tests}
use Rattle.std.proofs.lemmas.Map.Text.{btree_map_updates_text}
use Rattle.hub_script.specs.declared.script_reader.NameHolder.{NameHolder}
use Rattle.hub_script.specs.declared.script_reader.NamedEnd.{NamedEnd}
use Rattle.hub_script.specs.Known.{giving, is_same_holding, naming_more, taking_more}
use Rattle.hub_script.specs.Reader.{holding_cmp}

-- numbers compare alike where they are equal
pub is_eq-nat_cmp : (a b : ℕ) → is_eq (nat_cmp a b) ≡ (a == b)
is_eq-nat_cmp a b = grind (arith, nat_tests)

both_equal : (p q : Ordering) → is_eq (ordering_then p q) ≡ (is_eq p && is_eq q)
both_equal Less q = refl
both_equal Equal q = refl
both_equal Greater q = refl

is_same : (x y : NameHolder) → is_eq (holding_cmp x y) ≡ is_same_holding x y
is_same x y =
    both_equal (nat_cmp x.agent y.agent) (nat_cmp x.number y.number)
    ∙ (λ i. is_eq-nat_cmp x.agent y.agent i && is_eq-nat_cmp x.number y.number i)

set_true : (b c : Bool) → cond b true c ≡ (b || c)
set_true true c = refl
set_true false c = refl

set_false : (b c : Bool) → cond b false c ≡ (not b && c)
set_false true c = refl
set_false false c = refl

pub taken : (old new : BTreeSet NameHolder) (x : NameHolder) → sorted.Updates holding_cmp old new x true
    → (λ (y : NameHolder). contains holding_cmp new y) ≡ taking_more x (λ y. contains holding_cmp old y)
taken old new x u = λ i y. (u.0 y ∙ ap (λ b. cond b true (contains holding_cmp old y)) (is_same x y) ∙ set_true (is_same_holding x y) (contains holding_cmp old y)) i

pub given : (old new : BTreeSet NameHolder) (x : NameHolder) → sorted.UpdatesBy holding_cmp (holding_cmp x) old new false
    → (λ (y : NameHolder). contains holding_cmp new y) ≡ giving x (λ y. contains holding_cmp old y)
given old new x u = λ i y. (u.0 y ∙ ap (λ b. cond b false (contains holding_cmp old y)) (is_same x y) ∙ set_false (is_same_holding x y) (contains holding_cmp old y)) i

pub names_one_more : (old new : BTreeMap (String Global) NamedEnd) (name : List ℕ) (x : NamedEnd)
    → tree.UpdatesBy string_cmp (λ k. slice_cmp nat_cmp name (string_bytes k)) old new (Some x)
    → (λ (n : List ℕ). get_by_text new n) ≡ naming_more name x (λ n. get_by_text old n)
names_one_more old new name x u = λ i n. btree_map_updates_text name old new (Some x) u n i

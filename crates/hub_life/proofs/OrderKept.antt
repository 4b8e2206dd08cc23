-- Each step on an order's word keeps its rule.
use Rattle.std.proofs.Common.{◌≡◌, ◌⊎◌, ℕ, zero, suc, ◌+◌, ◌<◌, ◌≤◌, ◌||◌, Bool, true, false, true≢false, eqb, List, [], ◌∷◌, ◌++◌, get_or, set, refl, sym, ap, ◌∙◌, subst, inl, inr, ⊎_elim, arith, length-set, get_or-set_same, bit_or, if◌then◌else◌}
use Rattle.std.specs.Prelude.{nat_lt, sum_by}
use Rattle.std.proofs.lemmas.List.Sums.{sum_by-cons, sum_by-append}
use Rattle.std.proofs.lemmas.Bool.Decides.{nat_tests}
use mathlib.Core.Option.{none, some, some-injective, some-ne-none}
use lib.ListN.{get_elem?}
use Rattle.atomic_table.specs.Table.{State, Me, step, keeps, stepped, opening, Allows, Splits}
use Rattle.atomic_table.proofs.Lists.{at_set, at_snoc, set_again}
use Rattle.hub_life.specs.declared.order.OrderView.{OrderView}
use Rattle.hub_life.specs.Order.{unaware, gives_in, order_word, IsOrderKept, GivesOrder, LooksForOrder}

-- a sum after a change of one item
pub sum_by-at_set : {A : Type 0} (f : A → ℕ) (l : List A) (i : ℕ) (v w : A) → get_elem? l i ≡ some v → sum_by f (set l i w) + f v ≡ sum_by f l + f w
sum_by-at_set f [] i v w e = absurd (some-ne-none v (sym e))
sum_by-at_set f (x ∷ xs) zero v w e =
    let is : f x ≡ f v = ap f (some-injective x v e) in
    omega (arith, sum_by-cons f w xs, sum_by-cons f x xs)
sum_by-at_set f (x ∷ xs) (suc i) v w e =
    let r = sum_by-at_set f xs i v w e in
    omega (arith, sum_by-cons f x (set xs i w), sum_by-cons f x xs)

-- no item weighs more than all
pub weight_le_sum_by : {A : Type 0} (f : A → ℕ) (l : List A) (i : ℕ) (v : A) → get_elem? l i ≡ some v → f v ≤ sum_by f l
weight_le_sum_by f [] i v e = absurd (some-ne-none v (sym e))
weight_le_sum_by f (x ∷ xs) zero v e =
    let is : f x ≡ f v = ap f (some-injective x v e) in
    omega (arith, sum_by-cons f x xs)
weight_le_sum_by f (x ∷ xs) (suc i) v e =
    let r = weight_le_sum_by f xs i v e in
    omega (arith, sum_by-cons f x xs)

or_cases : (a b : Bool) → (a || b) ≡ true → (a ≡ true) ⊎ (b ≡ true)
or_cases true b e = inl refl
or_cases false b e = inr e

-- a word that is 1 says that the order was given, and the other way round
given_where_one : (gives n : ℕ) → n ≡ order_word gives → eqb n 1 ≡ true → 0 < gives
given_where_one zero n is one = absurd (true≢false (sym one ∙ ap (λ (k : ℕ). eqb k 1) is))
given_where_one (suc gives) n is one = omega arith

one_where_given : (gives n : ℕ) → n ≡ order_word gives → 0 < gives → n ≡ 1
one_where_given gives n is some_gave = grind (arith, nat_tests)

-- the bit is set, whatever the word was
set_bit : (gives n : ℕ) → n ≡ order_word gives → bit_or n 1 ≡ 1
set_bit gives n is = ap (λ (k : ℕ). bit_or k 1) is ∙ either_bit (nat_lt 0 gives)
  where
    either_bit : (given : Bool) → bit_or (if given then 1 else 0) 1 ≡ 1
    either_bit true = refl
    either_bit false = refl

abbrev Shared : Type 0
Shared = State (Unit {0}) OrderView

abbrev Own : Type 0
Own = Me (Unit {0}) OrderView

-- a step keeps the rule where its number is right for the new views, and its seat forgets no gift and finds nothing that none gave
placed : (s : Shared) → IsOrderKept s → (n id : ℕ) (me : Own) (w : OrderView) → get_elem? s.views id ≡ some me.0
    → me.0.gives ≤ w.gives → n ≡ order_word (gives_in (set s.views id w)) → (w.found ≡ true → 0 < gives_in (set s.views id w))
    → IsOrderKept (stepped s 0 n id me.1 w keeps)
placed s kept n id me w at more is finds =
    let one = kept.one in
    let sum = sum_by-at_set (λ (v : OrderView). v.gives) s.views id me.0 w at in
    record {
      one = length-set s.words 0 n ∙ one;
      word = get_or-set_same s.words 0 n 0 (omega arith) ∙ is;
      given = λ seat u there found. ⊎_elim
          (λ mine. finds (ap (λ (v : OrderView). v.found) mine.1 ∙ found))
          (λ other. let was = kept.given seat u other.1 found in omega arith)
          (at_set s.views id seat w u there);
    }

pub opens : IsOrderKept (opening (0 ∷ []) [] unaware)
opens = record { one = refl; word = refl; given = none_found }
  where
    none_found : (seat : ℕ) (v : OrderView) → get_elem? (unaware ∷ []) seat ≡ some v → v.found ≡ true → 0 < gives_in (unaware ∷ [])
    none_found zero v there found = absurd (true≢false (sym found ∙ ap (λ (u : OrderView). u.found) (sym (some-injective unaware v there))))
    none_found (suc seat) v there found = absurd (some-ne-none v (sym there))

pub cuts : (id : ℕ) (v : OrderView) → Splits IsOrderKept id v v unaware
cuts id v s kept at =
    let same = set_again s.views id v at in
    subst (λ (l : List OrderView). IsOrderKept record { words = s.words; homes = s.homes; views = l ++ unaware ∷ [] }) (sym same)
    (record {
      one = kept.one;
      word = kept.word ∙ ap order_word (sym total);
      given = λ seat u there found. ⊎_elim
          (λ was. let some_gave = kept.given seat u was found in omega (arith, total))
          (λ new. absurd (true≢false (sym found ∙ ap (λ (w : OrderView). w.found) (sym new))))
          (at_snoc s.views unaware u seat there);
    })
  where
    total : gives_in (s.views ++ unaware ∷ []) ≡ gives_in s.views
    total = omega (arith, sum_by-append (λ (w : OrderView). w.gives) s.views (unaware ∷ []))

pub gives_keep : (slots id : ℕ) (me : Own) → Allows IsOrderKept slots id me 0 (λ n. bit_or n 1) (GivesOrder (step slots 0 1 0 none) me)
gives_keep slots id me s kept fits at small =
    let v = me.0 in
    let w : OrderView = record { gives = v.gives + 1; looks = v.looks; found = v.found } in
    let sum = sum_by-at_set (λ (u : OrderView). u.gives) s.views id v w at in
    let more : gives_in (set s.views id w) ≡ suc (gives_in s.views) = omega arith in
    (w, keeps, tt, placed s kept (bit_or (get_or s.words 0 0) 1) id me w at (omega arith) (set_bit (gives_in s.views) (get_or s.words 0 0) kept.word ∙ sym (one_where_given (gives_in (set s.views id w)) (order_word (gives_in (set s.views id w))) refl (omega arith))) (λ _. omega arith), refl)

pub looks_keep : (slots id : ℕ) (me : Own) → Allows IsOrderKept slots id me 0 (λ n. n) (LooksForOrder (step slots 0 0 0 none) me)
looks_keep slots id me s kept fits at small =
    let v = me.0 in
    let n : ℕ = get_or s.words 0 0 in
    let w : OrderView = record { gives = v.gives; looks = v.looks + 1; found = eqb n 1 } in
    let sum = sum_by-at_set (λ (u : OrderView). u.gives) s.views id v w at in
    let same : gives_in (set s.views id w) ≡ gives_in s.views = omega arith in
    let least = weight_le_sum_by (λ (u : OrderView). u.gives) s.views id v at in (
      w,
      keeps,
      tt,
      placed s kept n id me w at (omega arith) (kept.word ∙ ap order_word (sym same)) (λ found. let gave = given_where_one (gives_in s.views) n kept.word found in omega arith),
      record {
        view = refl;
        stays = λ aware. one_where_given (gives_in s.views) n kept.word
            (⊎_elim (λ gave. let more : 0 < v.gives = grind (arith, nat_tests) in omega arith) (λ found. kept.given id v at found) (or_cases (nat_lt 0 v.gives) v.found aware));
      },
    )

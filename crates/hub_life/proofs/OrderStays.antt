-- The laws of the rule of an order's word.
use Rattle.std.proofs.Common.{◌≡◌, ℕ, zero, suc, ◌+◌, ◌<◌, ◌≤◌, List, [], ◌∷◌, set, refl, sym, ap, ◌∙◌, arith}
use Rattle.std.specs.Prelude.{Any, sum_by}
use Rattle.std.proofs.lemmas.List.Sums.{sum_by-cons, sum_by-append}
use Rattle.std.proofs.lemmas.Bool.Decides.{nat_tests}
use mathlib.Core.Option.{some}
use lib.ListN.{get_elem?}
use Rattle.atomic_table.proofs.Lists.{at_index}
use Rattle.hub_life.specs.declared.order.OrderView.{OrderView}
use Rattle.hub_life.specs.Order.{unaware, gives_in, order_word, IsOrderKept, GivesOrder, LooksForOrder}
use Rattle.hub_life.specs.OrderLaws.{Shared, IsOrderGiven, RuleShowsOrder, Steps, gives, looks, cuts, none_yet, one_more, IsStillGiven, StaysGiven}
use Rattle.hub_life.proofs.OrderKept.{sum_by-at_set, weight_le_sum_by}

-- a sum that isn't 0 has an item that isn't
positive_head : {A : Type 0} (f : A → ℕ) (x : A) (xs : List A) (n : ℕ) → f x ≡ n → (0 < sum_by f xs → Any (λ y. 0 < f y) xs) → 0 < sum_by f (x ∷ xs) → Any (λ y. 0 < f y) (x ∷ xs)
positive_head f x xs zero is rest more =
    let later = rest (omega (arith, sum_by-cons f x xs)) in
    (suc later.0, later.1, omega (arith, later.2), later.3, later.4)
positive_head f x xs (suc n) is rest more = (0, x, omega arith, refl, omega arith)

some_positive : {A : Type 0} (f : A → ℕ) (l : List A) → 0 < sum_by f l → Any (λ x. 0 < f x) l
some_positive f [] more = absurd (omega arith)
some_positive f (x ∷ xs) more = positive_head f x xs (f x) refl (some_positive f xs) more

-- where a seat stands that passes a test, and what it knows
there : {A : Type 0} (P : A → Type 0) (l : List A) (any : Any P l) → get_elem? l any.0 ≡ some any.1
there P l any = at_index l any.0 any.1 any.2 (sym any.3)

given_where_gave : (s : Shared) → 0 < gives_in s.views → IsOrderGiven s
given_where_gave s more = some_positive (λ (v : OrderView). v.gives) s.views more

gave_where_given : (s : Shared) → IsOrderGiven s → 0 < gives_in s.views
gave_where_given s given =
    let least = weight_le_sum_by (λ (v : OrderView). v.gives) s.views given.0 given.1 (there _ s.views given) in
    omega (arith, given.4)

one_where_gave : (n : ℕ) → 0 < n → order_word n ≡ 1
one_where_gave n more = grind (arith, nat_tests)

gave_where_one : (n : ℕ) → order_word n ≡ 1 → 0 < n
gave_where_one zero one = absurd (omega arith)
gave_where_one (suc n) one = omega arith

zero_where_none : (n : ℕ) → ¬ (0 < n) → order_word n ≡ 0
zero_where_none zero none = refl
zero_where_none (suc n) none = absurd (none (omega arith))

none_where_zero : (n : ℕ) → order_word n ≡ 0 → ¬ (0 < n)
none_where_zero n is more = let wrong : ◌≡◌ {A = ℕ} 1 0 = sym (one_where_gave n more) ∙ is in omega arith

pub shows : RuleShowsOrder IsOrderKept
shows s kept = record {
  one = kept.one;
  set = (
    λ one. given_where_gave s (gave_where_one (gives_in s.views) (sym kept.word ∙ one)),
    λ given. kept.word ∙ one_where_gave (gives_in s.views) (gave_where_given s given),
  );
  clear = (
    λ is given. none_where_zero (gives_in s.views) (sym kept.word ∙ is) (gave_where_given s given),
    λ none. kept.word ∙ zero_where_none (gives_in s.views) (λ more. none (given_where_gave s more)),
  );
  found = λ found. given_where_gave s (kept.given found.0 found.1 (there _ s.views found) found.4);
}

-- no step takes a gift away
no_less : {left right : OrderView → OrderView} (s later : Shared) → ((v : OrderView) → v.gives ≤ (left v).gives) → Steps GivesOrder LooksForOrder left right s later → gives_in s.views ≤ gives_in later.views
no_less s later keeps (gives slots seat me w act at valid told) =
    let sum = sum_by-at_set (λ (v : OrderView). v.gives) s.views seat me.0 w at in
    let more : w.gives ≡ me.0.gives + 1 = ap (λ (v : OrderView). v.gives) told in
    omega arith
no_less s later keeps (looks slots seat me w act at valid told) =
    let sum = sum_by-at_set (λ (v : OrderView). v.gives) s.views seat me.0 w at in
    let same : w.gives ≡ me.0.gives = ap (λ (v : OrderView). v.gives) told.view in
    omega arith
no_less {left} {right} s later keeps (cuts seat v at) =
    let sum = sum_by-at_set (λ (v : OrderView). v.gives) s.views seat v (left v) at in
    let kept = keeps v in
    omega (arith, sum_by-append (λ (w : OrderView). w.gives) (set s.views seat (left v)) (right v ∷ []))

still_given : (s later : Shared) → IsOrderKept s → IsOrderKept later → gives_in s.views ≤ gives_in later.views → IsStillGiven s later
still_given s later kept kept_later more = record {
  given = given;
  word = λ one. (shows later kept_later).set.1 (given ((shows s kept).set.0 one));
}
  where
    given : IsOrderGiven s → IsOrderGiven later
    given was = let some_gave = gave_where_given s was in given_where_gave later (omega arith)

pub stays : StaysGiven IsOrderKept GivesOrder LooksForOrder (λ v. v) (λ _. unaware)
stays s later kept none_yet = record { given = λ was. was; word = λ one. one }
stays s later kept (one_more {next = next} stepped kept_next more) =
    let here = still_given s next kept kept_next (no_less s next (λ v. omega arith) stepped) in
    let rest = stays next later kept_next more in
    record { given = λ was. rest.given (here.given was); word = λ one. rest.word (here.word one) }

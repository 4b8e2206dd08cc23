-- The word that the seats of one order share: what holds of it at every moment, and what a step tells the seat that makes it.
use Rattle.std.specs.Prelude.{◌≡◌, ℕ, ◌+◌, ◌<◌, ◌==◌, ◌||◌, Bool, true, false, List, nat_lt, sum_by, length, slice_index, if◌then◌else◌}
use mathlib.Core.Option.{some}
use lib.ListN.{get_elem?}
use Rattle.atomic_table.specs.Table.{State, Me, Step}
use Rattle.hub_life.specs.declared.order.OrderView.{OrderView}

-- what a new seat knows
abbrev pub unaware : OrderView
unaware = record { gives = 0; looks = 0; found = false }

-- the seat has given the order, or its last look found it
abbrev pub is_aware : OrderView → Bool
is_aware v = nat_lt 0 v.gives || v.found

-- how often the order was given, at all seats
abbrev pub gives_in : List OrderView → ℕ
gives_in views = sum_by (λ v. v.gives) views

-- the word where the order was given so often
abbrev pub order_word : ℕ → ℕ
order_word gives = if nat_lt 0 gives then 1 else 0

-- at every moment the one word says whether some seat has given the order, and no seat has found an order that none gave
pub record IsOrderKept (s : State (Unit {0}) OrderView) : Type 0 where
  pub one : length s.words ≡ 1
  pub word : slice_index s.words 0 ≡ order_word (gives_in s.views)
  pub given : (seat : ℕ) (v : OrderView) → get_elem? s.views seat ≡ some v → v.found ≡ true → 0 < gives_in s.views

-- the seat has given the order once more
abbrev pub GivesOrder : Step (Unit {0}) → Me (Unit {0}) OrderView → ℕ → Me (Unit {0}) OrderView → Type 0
GivesOrder step before found after = after.0 ≡ record { gives = before.0.gives + 1; looks = before.0.looks; found = before.0.found }

-- the seat has looked once more, and has found the order where the word was 1, which it was if the seat was aware of the order
pub record LooksForOrder (step : Step (Unit {0})) (before : Me (Unit {0}) OrderView) (found : ℕ) (after : Me (Unit {0}) OrderView) : Type 0 where
  pub view : after.0 ≡ record { gives = before.0.gives; looks = before.0.looks + 1; found = (found == 1) }
  pub stays : is_aware before.0 ≡ true → found ≡ 1

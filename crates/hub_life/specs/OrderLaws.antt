-- What holds of every order's word, whatever its seats do.
use Rattle.std.specs.Prelude.{◌≡◌, ℕ, ◌<◌, ◌↔◌, ◌++◌, Any, IsTrue, [], ◌∷◌, length, slice_index, slice_set, bit_or}
use mathlib.Core.Option.{none, some}
use lib.ListN.{get_elem?}
use Rattle.atomic_table.specs.Table.{State, Me, Step, Act, Valid, step, stepped, carried_after}
use Rattle.hub_life.specs.declared.order.OrderView.{OrderView}

-- the word of an order, with what each of its seats knows
abbrev pub Shared : Type 0
Shared = State (Unit {0}) OrderView

-- a seat, as its steps see it
abbrev pub Own : Type 0
Own = Me (Unit {0}) OrderView

-- what a step tells its seat
abbrev pub OrderTells : Type 1
OrderTells = Step (Unit {0}) → Own → ℕ → Own → Type 0

-- some seat has given the order
abbrev pub IsOrderGiven : Shared → Type 0
IsOrderGiven s = Any (λ (v : OrderView). 0 < v.gives) s.views

-- the last look of some seat found the order
abbrev pub IsOrderFound : Shared → Type 0
IsOrderFound s = Any (λ (v : OrderView). IsTrue v.found) s.views

-- the one word is 1 exactly where some seat has given the order, and else 0, and a seat has found the order only where some seat gave it
pub record ShowsOrder (s : Shared) : Type 0 where
  pub one : length s.words ≡ 1
  pub set : (slice_index s.words 0 ≡ 1) ↔ IsOrderGiven s
  pub clear : (slice_index s.words 0 ≡ 0) ↔ (¬ IsOrderGiven s)
  pub found : IsOrderFound s → IsOrderGiven s

-- the rule shows the order
abbrev pub RuleShowsOrder : (Shared → Type 0) → Type 0
RuleShowsOrder holds = (s : Shared) → holds s → ShowsOrder s

-- the steps of the seats at a word, by what a gift and a look tell their seat, and what a cut leaves it and gives the new one
module _ (give look : OrderTells) (left right : OrderView → OrderView) where
  -- one step of some seat: a gift sets the word's lowest bit, a look leaves the word as it is, and a cut makes one seat more
  pub data Steps : Shared → Shared → Type 0 where
    gives : {s : Shared} (slots seat : ℕ) (me : Own) (w : OrderView) (act : Act (Unit {0})) → get_elem? s.views seat ≡ some me.0 → Valid s.homes me.1 act
        → give (step slots 0 1 0 none) me (slice_index s.words 0) (w, carried_after me.1 act) → Steps s (stepped s 0 (bit_or (slice_index s.words 0) 1) seat me.1 w act)
    looks : {s : Shared} (slots seat : ℕ) (me : Own) (w : OrderView) (act : Act (Unit {0})) → get_elem? s.views seat ≡ some me.0 → Valid s.homes me.1 act
        → look (step slots 0 0 0 none) me (slice_index s.words 0) (w, carried_after me.1 act) → Steps s (stepped s 0 (slice_index s.words 0) seat me.1 w act)
    cuts : {s : Shared} (seat : ℕ) (v : OrderView) → get_elem? s.views seat ≡ some v
        → Steps s record { words = s.words; homes = s.homes; views = slice_set s.views seat (left v) ++ right v ∷ [] }

  -- any number of steps, after each of which the rule holds
  pub data Follows (holds : Shared → Type 0) : Shared → Shared → Type 0 where
    none_yet : {s : Shared} → Follows holds s s
    one_more : {s next later : Shared} → Steps s next → holds next → Follows holds next later → Follows holds s later

-- what was given stays given, and the word that was 1 stays 1
pub record IsStillGiven (s later : Shared) : Type 0 where
  pub given : IsOrderGiven s → IsOrderGiven later
  pub word : slice_index s.words 0 ≡ 1 → slice_index later.words 0 ≡ 1

-- whatever steps follow where the rule holds, what was given stays given
abbrev pub StaysGiven : (Shared → Type 0) → OrderTells → OrderTells → (OrderView → OrderView) → (OrderView → OrderView) → Type 0
StaysGiven holds give look left right = (s later : Shared) → holds s → Follows give look left right holds s later → IsStillGiven s later

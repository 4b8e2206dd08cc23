-- A seat at an order's word, as its callers see it.
use Rattle.std.specs.Prelude.{ℕ, Bool, false, ◌||◌, nat_lt}
use Rattle.atomic_table.specs.Seated.{TableId}
use Rattle.hub_life.specs.declared.order.OrderView.{OrderView}

-- which word the seat is at, how often it has given the order and looked for it, and whether its last look found it
pub record OrderSeat : Type 0 where
  pub word : TableId
  pub gives : ℕ
  pub looks : ℕ
  pub found : Bool

-- the seat at a word that knows this
abbrev pub order_seat : TableId → OrderView → OrderSeat
order_seat word v = record { word = word; gives = v.gives; looks = v.looks; found = v.found }

-- a seat that has done nothing yet
abbrev pub new_seat : TableId → OrderSeat
new_seat word = record { word = word; gives = 0; looks = 0; found = false }

-- the seat has given the order, or a look of it has found it
abbrev pub knows : OrderSeat → Bool
knows s = nat_lt 0 s.gives || s.found

use Rattle.std.proofs.Common.{◌≡◌, replicate}
use Rattle.std.specs.Arc.{arc_value}
use Rattle.hub_life.specs.OrderSeat.{new_seat}
use Rattle.hub_life.proofs.order.Order.open.Given as goal

abbrev pub invariant-loop : goal.invariant-loop
invariant-loop l =
    ((arc_value l.word).shared.table_id.words ≡ 1)
    × (l.first.table_id ≡ (arc_value l.word).shared.table_id)
    × (l.orders.items ≡ replicate l.counter (new_seat l.first.table_id))

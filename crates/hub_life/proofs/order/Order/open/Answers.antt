use Rattle.std.proofs.Common.{rules}
use Rattle.hub_life.proofs.OrderKept.{cuts}
use Rattle.hub_life.proofs.order.Order.open.Goals as goal

pub split_seat-seat-requires : goal.split_seat-seat-requires
split_seat-seat-requires c = (search rules, search rules, cuts _ _)

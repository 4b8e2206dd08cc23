use Rattle.std.proofs.Common.{rules}
use Rattle.hub_life.proofs.OrderKept.{looks_keep}
use Rattle.hub_life.proofs.order.Order.seen.Goals as goal

pub load-requires : goal.load-requires
load-requires c = (search rules, search rules, looks_keep _ _ _)

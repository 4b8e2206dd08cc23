use Rattle.std.proofs.Common.{rules}
use Rattle.hub_life.proofs.OrderKept.{gives_keep}
use Rattle.hub_life.proofs.order.Order.give.Goals as goal

pub fetch_or-requires : goal.fetch_or-requires
fetch_or-requires c = (search rules, search rules, gives_keep _ _ _)

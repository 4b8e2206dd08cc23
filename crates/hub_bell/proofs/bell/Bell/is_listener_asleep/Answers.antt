use Rattle.std.proofs.Common.{rules}
use Rattle.hub_bell.proofs.Boards.{may_look}
use Rattle.hub_bell.proofs.bell.Bell.is_listener_asleep.Goals as goal

pub load-requires : goal.load-requires
load-requires c = (search rules, search rules, may_look _ _ _ _)

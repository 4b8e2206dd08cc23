use Rattle.std.proofs.Common.{rules}
use Rattle.hub_bell.proofs.Boards.{may_look, may_store}
use Rattle.hub_bell.proofs.bell.Listener.park.Goals as goal

pub store-requires : goal.store-requires
store-requires g c = (search rules, search rules, may_store _ _ _ _ _)

pub load-requires : goal.load-requires
load-requires g c = (search rules, search rules, may_look _ _ _ _)

pub store-requires-2 : goal.store-requires-2
store-requires-2 g c = (search rules, search rules, may_store _ _ _ _ _)

use Rattle.std.proofs.Common.{rules}
use Rattle.hub_bell.proofs.Boards.{may_look}
use Rattle.hub_bell.proofs.bell.Listener.has_set_bits.Goals as goal

pub load-requires : goal.load-requires
load-requires c = (search rules, search rules, may_look _ _ _ _)

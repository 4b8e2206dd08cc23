use Rattle.std.proofs.Common.{rules}
use Rattle.hub_bell.proofs.Boards.{may_look, may_take}
use Rattle.hub_bell.proofs.bell.Listener.take_word.Goals as goal

pub load-requires : goal.load-requires
load-requires c = (search rules, search rules, may_look _ _ _ _)

pub swap-requires : goal.swap-requires
swap-requires c = (search rules, search rules, may_take _ _ _ _)

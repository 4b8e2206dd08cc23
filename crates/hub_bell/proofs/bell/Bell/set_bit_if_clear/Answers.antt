use Rattle.std.proofs.Common.{rules}
use Rattle.hub_bell.proofs.Boards.{may_look, may_set}
use Rattle.hub_bell.proofs.bell.Bell.set_bit_if_clear.Goals as goal

pub load-requires : goal.load-requires
load-requires c = (search rules, search rules, may_look _ _ _ _)

pub fetch_or-requires : goal.fetch_or-requires
fetch_or-requires c = (search rules, search rules, may_set _ _ _ _ _)

use Rattle.std.proofs.Common.{rules}
use Rattle.hub_gate.proofs.Flags.{sets}
use Rattle.hub_gate.proofs.keeper.set_flag.Goals as goal

pub fetch_or-requires : goal.fetch_or-requires
fetch_or-requires g c = (search rules, search rules, sets g.T.Right.tag _ _ _ c.args.flag _ c.bit.ensures c.requires.keeper)

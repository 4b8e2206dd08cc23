use Rattle.std.proofs.Common.{rules}
use Rattle.hub_gate.proofs.Lines.{turns_back_at}
use Rattle.hub_gate.proofs.entry.remove_line_turned_back_from_word.Goals as goal

pub fetch_sub-requires : goal.fetch_sub-requires
fetch_sub-requires g c = (search rules, search rules, turns_back_at g.T.Right.tag _ _ _ _ c.requires.turned)

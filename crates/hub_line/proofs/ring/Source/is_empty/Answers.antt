use Rattle.std.proofs.Common.{rules}
use Rattle.hub_line.proofs.Numbers.{length-items}
use Rattle.hub_line.proofs.ring.Source.is_empty.Goals as goal

pub returns-clause-some : goal.returns-clause-some
returns-clause-some g c = rw length-items (search rules)

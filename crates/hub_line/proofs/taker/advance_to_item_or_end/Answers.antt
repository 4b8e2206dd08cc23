use Rattle.std.proofs.Common.{rules}
use Rattle.rtrb.specs.Ring.{received}
use Rattle.hub_line.specs.Reach.{HasReached}
use Rattle.hub_line.specs.declared.ring.Ahead.TheVariants.{Last}
use Rattle.hub_line.proofs.Reach.{all_of_it}
use Rattle.hub_line.proofs.taker.advance_to_item_or_end.Goals as goal

pub returns-in-Last-clause-ended : goal.returns-in-Last-clause-ended
returns-in-Last-clause-ended g c = λ _ none.
    let reached : HasReached c.match-ahead.source Last (received c.match-ahead.rail) = search rules in
    (reached.1, all_of_it (received c.match-ahead.rail) c.match-ahead.source reached.0 none)

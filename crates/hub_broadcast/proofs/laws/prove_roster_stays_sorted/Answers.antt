use Rattle.hub_broadcast.proofs.Ranking.{keeps_order}
use Rattle.hub_broadcast.proofs.laws.prove_roster_stays_sorted.Goals as goal

pub returns : goal.returns
returns c = keeps_order

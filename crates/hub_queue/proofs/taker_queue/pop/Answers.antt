use Rattle.hub_queue.proofs.Rule.{takes_at, learns}
use Rattle.hub_queue.proofs.taker_queue.pop.Goals as goal

pub pop_as-found-requires-clause-rule : goal.pop_as-found-requires-clause-rule
pop_as-found-requires-clause-rule g c = (takes_at _ _ _ c.requires.taker, learns _ _)

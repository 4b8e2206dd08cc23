use Rattle.std.proofs.Common.{rules, arith}
use Rattle.std.proofs.lemmas.Grind.{common_steps}
use Rattle.hub_queue.proofs.Sweeps.{knows_pop}
use Rattle.hub_queue.proofs.taker_queue.TakerQueue.pop.Goals as goal

pub invariant_of-self-2 : goal.invariant_of-self-2
invariant_of-self-2 g c = (search rules, c.pop.ensures.taker, search rules, grind (arith, common_steps), knows_pop _ _ _ _ c.in_ok-envelope.ensures.popped c.self.invariant.4)

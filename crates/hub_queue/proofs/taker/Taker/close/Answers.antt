use Rattle.hub_queue.specs.TakerQueues.{IsShut}
use Rattle.hub_queue.proofs.Chains.{all_shut, all_join, shut_closed}
use Rattle.hub_queue.proofs.taker.Taker.close.Goals as goal

pub invariant_of-result : goal.invariant_of-result
invariant_of-result c = all_join IsShut _ _ (all_shut _ _ _ c.self.invariant.retired) (shut_closed _ _ c.close_gate.ensures, tt)

use Rattle.hub_queue.proofs.Chains.{all_shut}
use Rattle.hub_queue.proofs.taker.Taker.take.Goals as goal

pub take_from_oldest_queue-requires : goal.take_from_oldest_queue-requires
take_from_oldest_queue-requires g c = all_shut _ _ _ c.self.invariant.retired

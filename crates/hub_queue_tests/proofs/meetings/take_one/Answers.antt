use Rattle.hub_queue.specs.declared.taker.Took.TheVariants.{Got}
use Rattle.hub_queue.proofs.Together.{take_keeps}
use Rattle.hub_queue_tests.proofs.meetings.take_one.Goals as goal

pub returns : goal.returns
returns g c = take_keeps _ _ _ _ _ (Got c.in-Got.envelope) (λ again. cc) c.in-Got.ensures c.requires

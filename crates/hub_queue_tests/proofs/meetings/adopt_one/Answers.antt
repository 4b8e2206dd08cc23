use Rattle.hub_queue.proofs.Together.{moved_keeps}
use Rattle.hub_queue_tests.proofs.meetings.adopt_one.Goals as goal

pub returns : goal.returns
returns g c = moved_keeps _ _ _ c.in-Ok.ensures.0 c.requires

use Rattle.hub_queue.proofs.Sweeps.{leaves}
use Rattle.hub_queue.proofs.taker_queue.TakerQueue.take_envelope_as_retired_queue.Goals as goal

pub returns-in-None : goal.returns-in-None
returns-in-None g c =
    let left = leaves _ _ _ c.if-settled.ensures c.in-None.ensures.popped in
    (left.0, left.1, c.in-None.ensures.counted)

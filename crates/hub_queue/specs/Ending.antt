-- What the closing of an end does.
use Rattle.std.specs.Prelude.{◌≡◌, ◌+◌, [], ◌∷◌, ◌++◌}
use Rattle.hub_queue.specs.Graves.{GraveSeat}
use Rattle.hub_queue.specs.TakerQueues.{TakerQueueSeat}
use Rattle.hub_queue.specs.Taking.{TakerSeat}

-- the queue, whose gate was closed once more
abbrev pub closed_queue : TakerQueueSeat → TakerQueueSeat
closed_queue p = record p { keeper = record p.keeper { at = record p.keeper.at { closes = p.keeper.at.closes + 1 } } }

-- the newest gate was closed once more, nothing was collected yet, and nothing else has changed
abbrev pub IsClosed : TakerSeat → GraveSeat → Type 0
IsClosed t g = g ≡ record { end = t.end; epoch = t.epoch; queues = t.retired ++ closed_queue t.newest ∷ []; envelopes = [] }

-- What shows a line that nobody posts over any more, and the newest queue of a closed end.
use Rattle.std.specs.Prelude.{◌≡◌, List, [], ◌∷◌, ◌++◌, Option, Some, None}
use Rattle.hub_bell.specs.Seats.{silent}
use Rattle.hub_depot.specs.declared.kept_map.Key.{Key}
use Rattle.hub_gate.specs.GateSeats.{EntrySeat}
use Rattle.hub_queue.specs.declared.store.PutView.{PutView}
use Rattle.hub_queue.specs.Graves.{GraveSeat}
use Rattle.hub_queue.specs.Seats.{LineSeat}
use Rattle.hub_queue.specs.Standing.{StandSeat, right_in}
use Rattle.hub_queue.specs.TakerQueues.{TakerQueueSeat}

-- the line, but for what its bell has done
abbrev pub unrung : StandSeat → StandSeat
unrung s = record { name = s.name; entry = s.entry; rung = silent; left = s.left }

-- the name of a line at its queue
abbrev pub line_name : PutView → Key
line_name v = record { end = record { 0 = v.end }; epoch = v.epoch; line = record { 0 = v.line } }

-- the line of this entry, where there is one, which has left these gates
abbrev pub line_shown : Option (EntrySeat LineSeat) → List (Option (EntrySeat LineSeat)) → Option StandSeat
line_shown None left = None
line_shown (Some e) left = Some (record { name = line_name (right_in e.at.home).at; entry = e; rung = silent; left = left })

-- the queue is the newest of the closed end
abbrev pub IsNewestOf : GraveSeat → TakerQueueSeat → Type 0
IsNewestOf g q = (older : List TakerQueueSeat) × (g.queues ≡ older ++ q ∷ [])

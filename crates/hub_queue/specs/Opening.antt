-- What a queue is as it is made.
use Rattle.std.specs.Prelude.{◌≡◌, ◌⊎◌, ℕ, zero, suc, List, [], ◌∷◌, ◌++◌, map, length}
use Rattle.atomic_blocks.specs.Laid.{WebId}
use Rattle.hub_gate.specs.GateRule.{keeper_at}
use Rattle.hub_gate.specs.GateSeats.{EntrySeat, first_entries}
use Rattle.hub_queue.specs.declared.store.TakeView.{TakeView}
use Rattle.hub_queue.specs.TakerQueues.{TakerQueueSeat}
use Rattle.hub_queue.specs.Seats.{LineSeat, tag_of}

-- the queue has this end and epoch, or no line and so no name yet
abbrev pub MayCut : ℕ → ℕ → TakeView → Type 0
MayCut end epoch t = (t.lines ≡ 0) ⊎ ((t.end ≡ end) × (t.epoch ≡ epoch))

-- the right of a line that has put nothing
abbrev pub new_right : WebId → ℕ → ℕ → ℕ → LineSeat
new_right web end epoch line = record { queue = web; at = record { end = end; epoch = epoch; line = line; put = []; refused = 0 } }

-- the rights of the first lines of a queue in which nothing was put
abbrev pub new_rights : WebId → ℕ → ℕ → ℕ → List LineSeat
new_rights web end epoch zero = []
new_rights web end epoch (suc line) = new_rights web end epoch line ++ new_right web end epoch line ∷ []

-- what the taker knows of a queue in which nothing was put, where so many lines have a pass
abbrev pub new_take : ℕ → ℕ → ℕ → TakeView
new_take end epoch lines = record { end = end; epoch = epoch; lines = lines; got = []; known = [] }

-- the same while the passes are made: the queue has no name before the first
abbrev pub cut_so_far : ℕ → ℕ → ℕ → TakeView
cut_so_far end epoch zero = new_take 0 0 0
cut_so_far end epoch (suc line) = new_take end epoch (suc line)

-- the rights that the gate of a new queue opens with
module _ (end epoch lines : ℕ) (p : TakerQueueSeat) where
  abbrev pub rights_of : List LineSeat
  rights_of = new_rights p.queue end epoch lines

  -- the queue is new and has so many lines, its gate has the rights of them, and the entries are those of its lines
  pub record IsOpenTakerQueue (entries : List (EntrySeat LineSeat)) : Type 0 where
    pub at : p.at ≡ new_take end epoch lines
    pub keeper : p.keeper.at ≡ keeper_at (map tag_of rights_of) rights_of (length rights_of)
    pub entries_are : entries ≡ first_entries p.keeper.gate (map tag_of rights_of) rights_of (length rights_of)

-- What a mailbox is as it is opened.
use Rattle.std.specs.Prelude.{◌≡◌, ℕ, zero, suc, List, [], ◌∷◌, ◌++◌, Some, None}
use Rattle.atomic_blocks.specs.Laid.{WebId}
use Rattle.atomic_table.specs.Seated.{TableId}
use Rattle.hub_bell.specs.Seats.{silent}
use Rattle.hub_envelope.specs.declared.ids.EndId.{EndId}
use Rattle.hub_gate.specs.GateRule.{new_line, keeper_at}
use Rattle.hub_queue.specs.Opening.{new_right, new_rights, new_take}
use Rattle.hub_queue.specs.TakerQueues.{TakerQueueSeat, tags_of}
use Rattle.hub_queue.specs.Seats.{tag_of}
use Rattle.hub_queue.specs.Standing.{StandSeat, none_left}
use Rattle.hub_queue.specs.Taking.{TakerSeat}

-- a line at a queue of an end, which has put nothing there
abbrev pub new_stand : TableId → WebId → EndId → ℕ → ℕ → StandSeat
new_stand gate web end epoch line = record {
  name = record { end = end; epoch = epoch; line = record { 0 = line } };
  entry = record { gate = gate; at = new_line line (tag_of (new_right web end.0 epoch line)) (Some (new_right web end.0 epoch line)) };
  rung = silent;
  left = none_left;
}

-- the first lines of an end, at its queue of this epoch
abbrev pub stands_at : TableId → WebId → EndId → ℕ → ℕ → List StandSeat
stands_at gate web end epoch zero = []
stands_at gate web end epoch (suc line) = stands_at gate web end epoch line ++ new_stand gate web end epoch line ∷ []

-- the same, at its first queue
abbrev pub new_stands : TableId → WebId → EndId → ℕ → List StandSeat
new_stands gate web end lines = stands_at gate web end 0 lines

-- a queue of this end and epoch in which nothing was put, with a gate that is disabled and has the rights of its lines
pub record IsNewTakerQueue (end epoch lines : ℕ) (p : TakerQueueSeat) : Type 0 where
  pub at : p.at ≡ new_take end epoch lines
  pub keeper : p.keeper.at ≡ keeper_at (tags_of p.queue lines) (new_rights p.queue end epoch lines) lines

-- The end has one queue, of epoch 0, in which nothing was put and which is disabled; its gate is that of the posters, one for each line.
pub record IsOpenMailbox (end : EndId) (lines : ℕ) (taker : TakerSeat) (posters : List StandSeat) : Type 0 where
  pub taker_is : taker ≡ record { end = end.0; epoch = 0; retired = []; newest = taker.newest; left = None }
  pub newest : IsNewTakerQueue end.0 0 lines taker.newest
  pub posters_are : posters ≡ new_stands taker.newest.keeper.gate taker.newest.queue end lines

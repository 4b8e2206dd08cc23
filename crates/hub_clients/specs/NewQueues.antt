-- What a client or worker queue is as it is made.
use Rattle.std.specs.Prelude.{◌≡◌, ℕ, [], map, Some, None}
use Rattle.hub_envelope.specs.declared.limits.TheConstants.{MAX_LINES}
use Rattle.hub_queue.specs.Mailboxes.{IsNewTakerQueue, new_stands}
use Rattle.hub_queue.specs.Taking.{TakerSeat, started}
use Rattle.hub_clients.specs.Listings.{ListedSeat}

-- the end has one queue, of epoch 0 and with MAX_LINES lines, in which nothing was put and which is disabled
pub record IsNewClientQueue (end : ℕ) (t : TakerSeat) : Type 0 where
  pub taker_is : t ≡ record { end = end; epoch = 0; retired = []; newest = t.newest; left = None }
  pub newest : IsNewTakerQueue end 0 MAX_LINES t.newest

-- the queue of this taker as it is listed: with exactly its posters, each at home at its own line, of which none has been used
abbrev pub listed_of : TakerSeat → ListedSeat
listed_of t = record { end = record { 0 = t.end }; lines = map Some (new_stands t.newest.keeper.gate t.newest.queue (record { 0 = t.end }) MAX_LINES) }

-- the same, and then its gate was enabled
abbrev pub IsNewWorkerQueue : ℕ → TakerSeat → Type 0
IsNewWorkerQueue end new = (t : TakerSeat) × IsNewClientQueue end t × (new ≡ started t)

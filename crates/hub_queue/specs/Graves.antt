-- A closed end, and what is left of one that is empty.
use Rattle.std.specs.Prelude.{ℕ, List}
use Rattle.hub_envelope.specs.declared.envelope.Envelope.{Envelope}
use Rattle.hub_queue.specs.TakerQueues.{TakerQueueSeat}

-- the end, the epoch of the taker's queue, its queues from there on, and what was collected from them
pub record GraveSeat : Type 0 where
  pub end : ℕ
  pub epoch : ℕ
  pub queues : List TakerQueueSeat
  pub envelopes : List Envelope

-- the end, what was discarded there, and its queues from the taker's on
pub record SweptSeat : Type 0 where
  pub end : ℕ
  pub envelopes : List Envelope
  pub queues : List TakerQueueSeat

-- What a turn comes to.
use Rattle.std.specs.Prelude.{◌≡◌, ℕ, ◌+◌, Bool, List, [], Option, Some, None, Result, Ok, Err, true, false, ◌≤◌, count_by, nat_lt, ◌++◌, map, length}
use Rattle.hub_envelope.specs.declared.envelope.Envelope.{Envelope}
use Rattle.hub_envelope.specs.declared.ids.EndId.{EndId}
use Rattle.hub_bell.specs.declared.board.BoardStep.{BoardStep}
use Rattle.hub_ready.specs.Marking.{mark_of}
use Rattle.hub_queue.specs.Counting.{Count}
use Rattle.hub_loop.specs.declared.serving.Served.TheVariants.{Given, Nothing}
use Rattle.hub_loop.specs.declared.handler.Turn.{Turn}
use Rattle.hub_loop.specs.declared.handler.Turn.TheVariants.{Delivered, Idle, Ending}
use Rattle.hub_loop.specs.Delivering.{IsDelivered}
use Rattle.hub_loop.specs.Serving.{AreServed}
use Rattle.hub_loop.specs.States.{DeliveryState, HoldingState}
use Rattle.hub_bell.specs.Listening.{HasSlept}
use Rattle.hub_bell.specs.Seats.{Done}
use Rattle.slab.specs.Slab.{Slab, get}
use Rattle.hub_queue.specs.Taking.{TakerSeat}
use Rattle.hub_loop.specs.declared.held.Held.{Held}
use Rattle.hub_loop.specs.Holding.{seat_of, with_seat}
use Rattle.hub_queue.specs.TakerQueues.{TakerQueueSeat}

-- The delivery that was kept goes on. Where none was, the ends were asked in order, beginning behind the one served last, and some passed over that were not marked and whose ready bits were found clear: what is due is the envelope of the first that gave one, whose mark stays, or nothing.
abbrev pub IsDue : Option DeliveryState → HoldingState → HoldingState → List BoardStep → Count → Count → Result DeliveryState Bool → Type 0
IsDue (Some kept) old new looks before after due = (due ≡ Ok kept) × (new ≡ old) × (after ≡ before) × (looks ≡ [])
IsDue None old new looks before after (Ok d) =
    (key : ℕ) × (v : Envelope) × (d ≡ record { envelope = v; arrival = None })
    × AreServed old.ends.next old.ends.held new.ends.held old.ends.ready.marks looks before after (Given key v) × (new.ends.next ≡ key + 1) × (mark_of new.ends.ready.marks key ≡ 1)
    × (new.closed ≡ old.closed)
IsDue None old new looks before after (Err busy) =
    AreServed old.ends.next old.ends.held new.ends.held old.ends.ready.marks looks before after (Nothing busy) × (new.ends.next ≡ old.ends.next) × (new.closed ≡ old.closed)

-- what a turn is given, and what it leaves: what is held, the delivery that is kept, the handler, and the pops that were counted
pub record TurnState (H : Type 0) : Type 0 where
  pub holding : HoldingState
  pub kept : Option DeliveryState
  pub handler : H
  pub pops : Count

module _ {H E : Type 0} (leaves refuses : H → Envelope → List EndId → H → Type 0) where
  -- Ending: nothing was done. Idle: no delivery was kept, and each end was asked. Delivered: one delivery was taken up and told to the handler. After an error it is kept.
  abbrev pub IsTurn : TurnState H → TurnState H → List BoardStep → Result Turn E → Type 0
  IsTurn given left looks (Ok Ending) = (left ≡ given) × (looks ≡ [])
  IsTurn given left looks (Ok (Idle busy)) =
      IsDue given.kept given.holding left.holding looks given.pops left.pops (Err busy) × (left.kept ≡ None) × (left.handler ≡ given.handler)
  IsTurn given left looks (Ok Delivered) =
      (d : DeliveryState) × (e : DeliveryState) × (middle : HoldingState) × IsDue given.kept given.holding middle looks given.pops left.pops (Ok d)
      × IsDelivered {E = E} leaves refuses d e middle left.holding given.handler left.handler (Ok tt) × (left.kept ≡ None) × (left.holding.ends.next ≡ middle.ends.next)
  IsTurn given left looks (Err error) =
      (d : DeliveryState) × (e : DeliveryState) × (middle : HoldingState) × IsDue given.kept given.holding middle looks given.pops left.pops (Ok d)
      × IsDelivered {E = E} leaves refuses d e middle left.holding given.handler left.handler (Err error) × (left.kept ≡ Some e) × (left.holding.ends.next ≡ middle.ends.next)

-- After an idle turn in which no end was busy the listener slept, if it found no end rung; and else it has done nothing.
abbrev pub Rests : Turn → Done → Done → Type 0
Rests (Idle false) old new = HasSlept old new
Rests (Idle true) old new = new ≡ old
Rests Delivered old new = new ≡ old
Rests Ending old new = new ≡ old

-- whoever takes here takes from an end whose newest gate was enabled
abbrev pub is_seat_enabled : Option TakerSeat → Bool
is_seat_enabled None = false
is_seat_enabled (Some t) = nat_lt 0 t.newest.keeper.at.enables

-- under this key an enabled end is held; a line is none
abbrev pub is_enabled : Option Held → Bool
is_enabled None = false
is_enabled (Some h) = is_seat_enabled (seat_of h)

-- Idle: at least as many pops were made as enabled ends are held.
abbrev pub PopsEach : {E : Type 0} → Result Turn E → Slab Held → Count → Count → Type 0
PopsEach (Ok (Idle busy)) held before after = count_by is_enabled held.slots + before.pops ≤ after.pops
PopsEach (Ok Delivered) held before after = Unit {0}
PopsEach (Ok Ending) held before after = Unit {0}
PopsEach (Err error) held before after = Unit {0}

-- what was taken from a queue
abbrev pub got_of : TakerQueueSeat → List Envelope
got_of p = p.at.got

-- The taker may have left queues, the oldest first. Of each queue that it still has, what was taken is as it was.
pub record TookNothing (old new : TakerSeat) : Type 0 where
  pub end : new.end ≡ old.end
  pub left : List (List Envelope)
  pub retired : map got_of old.retired ≡ left ++ map got_of new.retired
  pub newest : got_of new.newest ≡ got_of old.newest
  pub epoch : new.epoch ≡ old.epoch + length left

-- The same is held, with another taker at most, and that one took nothing. A line is as it was.
abbrev pub SeatTookNothing : Option TakerSeat → Held → Held → Type 0
SeatTookNothing None old new = new ≡ old
SeatTookNothing (Some s) old new = (t : TakerSeat) × (new ≡ with_seat old t) × TookNothing s t

abbrev pub HeldTookNothing : Held → Held → Type 0
HeldTookNothing old new = SeatTookNothing (seat_of old) old new

-- What was held under a key is still held there, and nothing was taken of it. Where nothing was held, a port may stand now.
abbrev pub SlotTookNothing : Option Held → Option Held → Type 0
SlotTookNothing None new = Unit {0}
SlotTookNothing (Some old) new = (left : Held) × (new ≡ Some left) × HeldTookNothing old left

-- nothing was taken under any key but these
abbrev pub TookNothingBut : (ℕ → Type 0) → Slab Held → Slab Held → Type 0
TookNothingBut gave old new = (key : ℕ) → (gave key → ⊥) → SlotTookNothing (get old key) (get new key)

-- Under this key stands the end that gave the envelope of the turn: the next asking begins behind it. No end did where a delivery was kept, and none at Idle and Ending.
abbrev pub Gave : {E : Type 0} → Option DeliveryState → ℕ → Result Turn E → ℕ → Type 0
Gave (Some kept) next result key = ⊥
Gave None next (Ok Ending) key = ⊥
Gave None next (Ok (Idle busy)) key = ⊥
Gave None next (Ok Delivered) key = next ≡ key + 1
Gave None next (Err error) key = next ≡ key + 1

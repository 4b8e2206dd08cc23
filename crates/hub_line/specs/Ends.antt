-- What contracts see of the two ends of a line.
use Rattle.std.specs.Prelude.{◌≡◌, ◌+◌, ◌%◌, ◌^◌, ℕ, false, List, []}
use Rattle.rtrb.specs.Ring.{sent, received, IsPair, SameProducer, SameConsumer}
use Rattle.hub_line.specs.Numbers.{AreCounted}
use Rattle.hub_line.specs.Rings.{known}
use Rattle.hub_line.specs.Tracks.{goes_on, posted_of}
use Rattle.hub_line.specs.Reach.{HasTakenAll, KnowsOfNone, taken_of}
use Rattle.hub_line.specs.declared.poster.LinePoster.{LinePoster}
use Rattle.hub_line.specs.declared.taker.LineTaken.{LineTaken}
use Rattle.hub_line.specs.declared.taker.LineTaken.TheVariants.{Item, Empty, Ended}
use Rattle.hub_line.specs.declared.taker.LineTaker.{LineTaker}
use Rattle.hub_line.specs.declared.ring.Ahead.TheVariants.{Open}

module _ {T : Type 0} where
  -- all that was posted, in order
  abbrev pub posted : LinePoster T → List T
  posted p = posted_of p.feed p.rail

  -- all that was taken, in order
  abbrev pub taken : LineTaker T → List T
  taken t = taken_of t.source t.ahead (received t.rail)

  -- the two ends of one line
  abbrev pub IsLine : LinePoster T → LineTaker T → Type 0
  IsLine p t = IsPair p.rail t.rail

  abbrev pub SamePoster : LinePoster T → LinePoster T → Type 0
  SamePoster old new = SameProducer old.rail new.rail

  abbrev pub SameTaker : LineTaker T → LineTaker T → Type 0
  SameTaker old new = SameConsumer old.rail new.rail

  -- nothing can be posted any more
  abbrev pub IsOver : LinePoster T → Type 0
  IsOver p = goes_on (sent p.rail) ≡ false

  -- nothing is left of what the taker knows to be posted
  abbrev pub HasNoneLeft : LineTaker T → Type 0
  HasNoneLeft t = KnowsOfNone t.source t.ahead

  -- how many looks have found nothing, after one that came to this
  abbrev pub empties_after : LineTaken T → ℕ → ℕ
  empties_after (Item x) n = n
  empties_after Empty n = (n + 1) % 2 ^ 64
  empties_after Ended n = n

  -- one look more has found nothing
  abbrev pub HasLooked : LineTaker T → LineTaker T → Type 0
  HasLooked old new = new.empties ≡ (old.empties + 1) % 2 ^ 64

  -- the line has ended, and all that was ever posted was taken
  abbrev pub HasEnded : LineTaker T → Type 0
  HasEnded t = HasTakenAll t.source t.ahead (received t.rail)

  -- an item is known, or the line has ended
  abbrev pub HasSome : LineTaker T → Type 0
  HasSome t = known t.source ≡ [] → HasEnded t

  -- the ring that the taker takes from is known to be over
  abbrev pub KnowsItsRingOver : LineTaker T → Type 0
  KnowsItsRingOver t = t.ahead ≡ Open → ⊥

  -- the taker has closed the line
  abbrev pub IsShut : LineTaker T → Type 0
  IsShut t = t.told + 1 ≡ 2 ^ 64

  -- What was taken of the ring in use has the numbers 0, 1, 2 and so on, which its poster gave
  -- it: none was lost, repeated or out of order.
  abbrev pub IsInOrder : LineTaker T → Type 0
  IsInOrder t = AreCounted (received t.source.ring)

-- What contracts see of the two ends of a ring of numbered items.
use Rattle.std.specs.Prelude.{ℕ, List}
use Rattle.rtrb.specs.Ring.{sent, received, known_items, known_free, IsPair, SameProducer, SameConsumer}
use Rattle.hub_line.specs.declared.ring.Feed.{Feed}
use Rattle.hub_line.specs.declared.ring.Source.{Source}
use Rattle.hub_line.specs.Numbers.{items}

module _ {T : Type 0} where
  -- all that was posted in the ring, in order
  abbrev pub fed : Feed T → List T
  fed f = items (sent f.ring)

  -- all that was taken from the ring, in order
  abbrev pub given : Source T → List T
  given s = items (received s.ring)

  -- what the taker knows to be left in the ring
  abbrev pub known : Source T → List T
  known s = items (known_items s.ring)

  -- for how many items the poster knows room
  abbrev pub free : Feed T → ℕ
  free f = known_free f.ring

  -- the two ends of one ring
  abbrev pub IsRing : Feed T → Source T → Type 0
  IsRing f s = IsPair f.ring s.ring

  abbrev pub SameFeed : Feed T → Feed T → Type 0
  SameFeed old new = SameProducer old.ring new.ring

  abbrev pub SameSource : Source T → Source T → Type 0
  SameSource old new = SameConsumer old.ring new.ring

-- How the rings of a line follow one another.
use Rattle.std.specs.Prelude.{true, ◌≡◌, ◌<◌, List, [], ◌∷◌, ◌++◌, Option, Some, None, Bool, is_some}
use Rattle.rtrb.specs.Ring.{sent, known_free}
use Rattle.rtrb.specs.declared.producer.Producer.{Producer}
use Rattle.std.specs.declared.alloc.Global.{Global}
use Rattle.hub_line.specs.Rings.{fed, given, IsRing}
use Rattle.hub_line.specs.declared.ring.Feed.{Feed}
use Rattle.hub_line.specs.declared.ring.Source.{Source}
use Rattle.hub_line.specs.declared.ring.Chained.{Chained}
use Rattle.hub_line.specs.declared.ring.Track.{Track}
use Rattle.hub_line.specs.declared.ring.Track.TheVariants.{First, Onward, End}

module _ {T : Type 0} where
  -- the ring in which the line goes on
  abbrev pub next_ring : Track T → Option (Source T)
  next_ring (First s) = Some s
  next_ring (Onward f s) = Some s.value
  next_ring (End f) = None

  -- the ring in which the line goes on after the last of these
  abbrev pub last_ring : List (Track T) → Option (Source T)
  last_ring [] = None
  last_ring (x ∷ []) = next_ring x
  last_ring (x ∷ y ∷ ys) = last_ring (y ∷ ys)

  -- whether the line goes on after the last of these
  abbrev pub goes_on : List (Track T) → Bool
  goes_on tracks = is_some (last_ring tracks)

  -- all that was posted in the ring that is over
  abbrev pub over : Track T → List T
  over (First s) = []
  over (Onward f s) = fed f
  over (End f) = fed f

  -- all that was posted in the rings that are over, in order
  abbrev pub settled : List (Track T) → List T
  settled [] = []
  settled (x ∷ xs) = over x ++ settled xs

  -- the ring is the one in which the line goes on after the last of these
  abbrev pub IsLinked : Feed T → List (Track T) → Type 0
  IsLinked feed tracks = (s : Source T) → last_ring tracks ≡ Some s → IsRing feed s

  -- the ring in use, if there is one, is that one
  abbrev pub IsLinkedTo : Option (Feed T) → List (Track T) → Type 0
  IsLinkedTo feed tracks = (f : Feed T) → feed ≡ Some f → IsLinked f tracks

  -- The line goes on where there is a ring in use, which is the last one of the rail; there is
  -- room for the end then.
  abbrev pub Stands : Option (Feed T) → Producer (Track T) Global Chained → Type 0
  Stands feed rail = (goes_on (sent rail) ≡ is_some feed) × (IsLinkedTo feed (sent rail) × (is_some feed ≡ true → 0 < known_free rail))

  -- all that was posted in the ring in use
  abbrev pub in_use : Option (Feed T) → List T
  in_use None = []
  in_use (Some f) = fed f

  -- all that was posted, in the ring in use and in those before it
  abbrev pub posted_of : Option (Feed T) → Producer (Track T) Global Chained → List T
  posted_of feed rail = settled (sent rail) ++ in_use feed

  -- a ring is over only as the one in which the line was, and a new one is empty; nothing follows an end
  abbrev pub Follows : List (Track T) → Track T → Type 0
  Follows before (First s) = (given s ≡ []) × (before ≡ [])
  Follows before (Onward f s) = (given s.value ≡ []) × (goes_on before ≡ true) × IsLinked f before
  Follows before (End f) = (goes_on before ≡ true) × IsLinked f before

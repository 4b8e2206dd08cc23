-- How far a taker is.
use Rattle.std.specs.Prelude.{◌≡◌, true, false, List, [], ◌∷◌, ◌++◌, Some}
use Rattle.std.specs.Coded.{Coded, Coded-set, coded_list, ×_prop}
use Rattle.std.proofs.Props.{props}
use Rattle.hub_line.specs.Rings.{given, known, SameSource}
use Rattle.hub_line.specs.declared.ring.Source.{Source}
use Rattle.hub_line.specs.declared.ring.Track.{Track}
use Rattle.hub_line.specs.declared.ring.Ahead.{Ahead}
use Rattle.hub_line.specs.declared.ring.Ahead.TheVariants.{Open, Next, Last}
use Rattle.hub_line.specs.Tracks.{goes_on, last_ring, over, settled}

module _ {T : Type 0} where
  -- all but the last
  abbrev pub front : List (Track T) → List (Track T)
  front [] = []
  front (x ∷ []) = []
  front (x ∷ y ∷ ys) = x ∷ front (y ∷ ys)

  -- all that was posted in the ring that is over with the last of these
  abbrev pub last_over : List (Track T) → List T
  last_over [] = []
  last_over (x ∷ []) = over x
  last_over (x ∷ y ∷ ys) = last_over (y ∷ ys)

  -- the tracks behind the ring that the taker takes from
  abbrev pub behind : Ahead T → List (Track T) → List (Track T)
  behind Open tracks = tracks
  behind (Next s) tracks = front tracks
  behind Last tracks = front tracks

  -- all that was taken
  abbrev pub taken_of : Source T → Ahead T → List (Track T) → List T
  taken_of source ahead tracks = settled (behind ahead tracks) ++ given source

  -- the ring is the one in which the line goes on after the last of these
  abbrev pub IsAt : Source T → List (Track T) → Type 0
  IsAt source tracks = (goes_on tracks ≡ true) × ((s : Source T) → last_ring tracks ≡ Some s → SameSource s source)

  -- all that was posted in the ring, which is over, is taken or known
  abbrev pub IsAllKnown : Source T → List (Track T) → Type 0
  IsAllKnown source tracks = given source ++ known source ≡ last_over tracks

  -- Open: the ring is the last one that was heard of. Next, Last: it is over, and all of it is known.
  abbrev pub HasReached : Source T → Ahead T → List (Track T) → Type 0
  HasReached source Open tracks = IsAt source tracks
  HasReached source (Next next) tracks = IsAllKnown source tracks × (IsAt next.value tracks × (given next.value ≡ []))
  HasReached source Last tracks = IsAllKnown source tracks × (goes_on tracks ≡ false)

  -- the ring isn't known to be over, and no item of it is known that wasn't taken
  abbrev pub KnowsOfNone : Source T → Ahead T → Type 0
  KnowsOfNone source ahead = (ahead ≡ Open) × (known source ≡ [])

  -- The line has ended, and all that was posted in each of its rings was taken.
  abbrev pub HasTakenAll : Source T → Ahead T → List (Track T) → Type 0
  HasTakenAll source ahead tracks = (goes_on tracks ≡ false) × (taken_of source ahead tracks ≡ settled tracks)

pub reach_prop : {T : Type 0} → Coded T → (source : Source T) (ahead : Ahead T) (tracks : List (Track T)) → IsProp (HasReached source ahead tracks)
reach_prop code source Open tracks = Prim.hlevel props
reach_prop code source (Next next) tracks = ×_prop (Coded-set (coded_list code) _ _) (×_prop (Prim.hlevel props) (Coded-set (coded_list code) _ _))
reach_prop code source Last tracks = ×_prop (Coded-set (coded_list code) _ _) (Prim.hlevel props)

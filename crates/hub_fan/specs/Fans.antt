-- What is seen of the places of a fan, as a call begins and ends.
use Rattle.std.specs.Prelude.{◌≡◌, ◌≢◌, ◌<◌, ◌+◌, ℕ, List, [], length, slice_get, slice_set, Option, Some, None}
use Rattle.hub_line.specs.Ends.{posted, taken, IsLine}
use Rattle.hub_line.specs.declared.poster.LinePoster.{LinePoster}
use Rattle.hub_fan.specs.Places.{Ends, Gives, GivesNone, Keeps, Place, Shows, StaysEnded, StillWaits}
use Rattle.hub_fan.specs.Turns.{rank_of}
use Rattle.hub_fan.specs.declared.closing.FanDrained.{FanDrained}
use Rattle.hub_fan.specs.declared.closing.FanDrained.TheVariants as drained
use Rattle.hub_fan.specs.declared.fan.FanTaken.{FanTaken}
use Rattle.hub_fan.specs.declared.fan.FanTaken.TheVariants.{Message, Empty, Ended, Disabled}

abbrev pub Places : Type 0 → Type 0
Places M = List (Place M)

module _ {M : Type 0} where
  -- this holds of a place as it was and as it is, if there is one
  abbrev pub AtPlace : (Place M → Place M → Type 0) → Option (Place M) → Option (Place M) → Type 0
  AtPlace P (Some o) (Some n) = P o n
  AtPlace P None None = Unit {0}
  AtPlace P o n = ⊥

  -- there is such a place, and this holds of it
  abbrev pub AtOne : (Place M → Place M → Type 0) → Option (Place M) → Option (Place M) → Type 0
  AtOne P (Some o) (Some n) = P o n
  AtOne P o n = ⊥

  -- this holds of each place
  abbrev pub EachPlace : (Place M → Place M → Type 0) → Places M → Places M → Type 0
  EachPlace P old new = (length new ≡ length old) × ((j : ℕ) → j < length old → AtPlace P (slice_get old j) (slice_get new j))

  -- where this holds the place was asked and gave nothing, else it is as it was
  abbrev pub AskedIf : Type 0 → Option (Place M) → Option (Place M) → Type 0
  AskedIf P o n = (P → AtPlace GivesNone o n) × ((P → ⊥) → n ≡ o)

  -- so it is at each place
  abbrev pub AskedWhere : (ℕ → Type 0) → Places M → Places M → Type 0
  AskedWhere P old new = (length new ≡ length old) × ((j : ℕ) → j < length old → AskedIf (P j) (slice_get old j) (slice_get new j))

  -- this holds of one place, and of the others those of which that holds were asked and gave nothing
  abbrev pub OneAsked : ℕ → (Place M → Place M → Type 0) → (ℕ → Type 0) → Places M → Places M → Type 0
  OneAsked i P Q old new = (length new ≡ length old) × AtOne P (slice_get old i) (slice_get new i)
      × ((j : ℕ) → j < length old → j ≢ i → AskedIf (Q j) (slice_get old j) (slice_get new j))

  -- what came of asking the places of which this holds, those of which that holds before the one that gave
  abbrev pub TookFrom : (ℕ → Type 0) → (ℕ → ℕ → Type 0) → FanTaken M → Places M → Places M → Type 0
  TookFrom P Q (Message i m) old new = OneAsked i (Gives m) (Q i) old new
  TookFrom P Q (Ended i) old new = OneAsked i Ends (Q i) old new
  TookFrom P Q Empty old new = AskedWhere P old new
  TookFrom P Q Disabled old new = new ≡ old

  -- What came of asking all places in their order: one gave a message or its end, of those before it
  -- each gave nothing, and those behind it are as they were; or each gave nothing.
  abbrev pub TookInTurn : ℕ → ℕ → FanTaken M → Places M → Places M → Type 0
  TookInTurn next ready result old new = TookFrom (λ j. Unit {0}) (λ i j. rank_of next ready j < rank_of next ready i) result old new

  -- The places, with the line that has ended where it was.
  abbrev pub with_ended : FanTaken M → Place M → Places M → Places M
  with_ended (Message i m) ended places = places
  with_ended (Ended i) ended places = slice_set places i ended
  with_ended Empty ended places = places
  with_ended Disabled ended places = places

  -- the line that has ended, if one has
  abbrev pub IfEnded : (ℕ → Type 0) → FanTaken M → Type 0
  IfEnded P (Message i m) = Unit {0}
  IfEnded P (Ended i) = P i
  IfEnded P Empty = Unit {0}
  IfEnded P Disabled = Unit {0}

  -- the line from which something came
  abbrev pub IfFrom : (ℕ → Type 0) → FanTaken M → Type 0
  IfFrom P (Message i m) = P i
  IfFrom P (Ended i) = P i
  IfFrom P Empty = Unit {0}
  IfFrom P Disabled = Unit {0}

  -- the line from which the next take asks
  abbrev pub next_after : FanTaken M → ℕ → ℕ
  next_after (Message i m) next = i + 1
  next_after (Ended i) next = next
  next_after Empty next = next
  next_after Disabled next = next

  -- what came of asking the places of a closed fan
  abbrev pub Drained : FanDrained M → Places M → Places M → Type 0
  Drained (drained.Message i m) old new = (length new ≡ length old) × AtOne (Gives m) (slice_get old i) (slice_get new i)
      × ((j : ℕ) → j < length old → j ≢ i → AtPlace Keeps (slice_get old j) (slice_get new j))
  Drained drained.Empty old new = EachPlace Keeps old new × ((i : ℕ) × AtOne StillWaits (slice_get old i) (slice_get new i))
  Drained drained.Ended old new = EachPlace StaysEnded old new

  -- the line of which a message was handed back
  abbrev pub IfHanded : (ℕ → Type 0) → FanDrained M → Type 0
  IfHanded P (drained.Message i m) = P i
  IfHanded P drained.Empty = Unit {0}
  IfHanded P drained.Ended = Unit {0}

  -- of some line a message or the end is known
  abbrev pub SomeShows : Places M → Places M → Type 0
  SomeShows old new = (i : ℕ) × AtOne Shows (slice_get old i) (slice_get new i)

  -- no line is in such a place
  abbrev pub IsFree : Option (Place M) → Type 0
  IsFree (Some (Some t)) = ⊥
  IsFree (Some None) = Unit {0}
  IsFree None = Unit {0}

  -- a line is in the place
  abbrev pub IsInUse : Option (Place M) → Type 0
  IsInUse (Some (Some t)) = Unit {0}
  IsInUse (Some None) = ⊥
  IsInUse None = ⊥

  -- the place has the other end of the poster's line, over which nothing was sent
  abbrev pub IsNew : LinePoster M → Option (Place M) → Type 0
  IsNew p (Some (Some t)) = IsLine p t × (posted p ≡ []) × (taken t ≡ [])
  IsNew p (Some None) = ⊥
  IsNew p None = ⊥

  -- a line was opened in a place that was free, and the others are as they were
  abbrev pub Opens : ℕ → LinePoster M → Places M → Places M → Type 0
  Opens i p old new = IsFree (slice_get old i) × IsNew p (slice_get new i) × ((j : ℕ) → j ≢ i → slice_get new j ≡ slice_get old j)

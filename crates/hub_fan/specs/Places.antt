-- What is seen of a place of a fan, which has a line or is free, as a call begins and ends.
use Rattle.std.specs.Prelude.{◌≡◌, List, [], ◌∷◌, ◌++◌, Option, Some, None}
use Rattle.hub_line.specs.Ends.{taken, HasEnded, HasLooked, HasNoneLeft, HasSome, IsInOrder, IsShut, SameTaker}
use Rattle.hub_line.specs.declared.taker.LineTaken.{LineTaken}
use Rattle.hub_line.specs.declared.taker.LineTaken.TheVariants.{Item, Empty, Ended}
use Rattle.hub_line.specs.declared.taker.LineTaker.{LineTaker}

abbrev pub Place : Type 0 → Type 0
Place M = Option (LineTaker M)

module _ {M : Type 0} where
  -- the place has the same line, and nothing was taken
  abbrev pub Keeps : Place M → Place M → Type 0
  Keeps (Some t) (Some u) = SameTaker t u × (taken u ≡ taken t)
  Keeps None None = Unit {0}
  Keeps o n = ⊥

  -- a line that was asked, and of which nothing is left
  abbrev pub GivesNone : Place M → Place M → Type 0
  GivesNone (Some t) (Some u) = SameTaker t u × (taken u ≡ taken t) × HasNoneLeft u × HasLooked t u
  GivesNone None None = Unit {0}
  GivesNone o n = ⊥

  -- a line that was asked, and of which a message or the end is known
  abbrev pub Shows : Place M → Place M → Type 0
  Shows (Some t) (Some u) = SameTaker t u × (taken u ≡ taken t) × HasSome u
  Shows o n = ⊥

  -- a line that is closed, of which nothing was taken
  abbrev pub Shuts : Place M → Place M → Type 0
  Shuts (Some t) (Some u) = SameTaker t u × (taken u ≡ taken t) × IsShut u
  Shuts None None = Unit {0}
  Shuts o n = ⊥

  -- a line that gave the message
  abbrev pub Gives : M → Place M → Place M → Type 0
  Gives m (Some t) (Some u) = SameTaker t u × (taken u ≡ taken t ++ m ∷ []) × IsInOrder u
  Gives m o n = ⊥

  -- a line that has ended, of which all was taken
  abbrev pub Ends : Place M → Place M → Type 0
  Ends (Some t) (Some u) = SameTaker t u × (taken u ≡ taken t) × HasEnded u
  Ends o n = ⊥

  -- a line that has ended, of which all was taken, or no line
  abbrev pub StaysEnded : Place M → Place M → Type 0
  StaysEnded None None = Unit {0}
  StaysEnded o n = Ends o n

  -- a line that was asked, and has neither given nor ended
  abbrev pub StillWaits : Place M → Place M → Type 0
  StillWaits (Some t) (Some u) = SameTaker t u × (taken u ≡ taken t) × HasNoneLeft u × HasLooked t u
  StillWaits o n = ⊥

  -- what came of asking a place of an open fan
  abbrev pub Answers : LineTaken M → Place M → Place M → Type 0
  Answers (Item m) o n = Gives m o n
  Answers Empty o n = GivesNone o n
  Answers Ended o n = Ends o n

  -- what came of asking a place of a closed fan
  abbrev pub HandsBack : LineTaken M → Place M → Place M → Type 0
  HandsBack (Item m) o n = Gives m o n
  HandsBack Empty o n = StillWaits o n
  HandsBack Ended o n = StaysEnded o n

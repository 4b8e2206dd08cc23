-- The seats of a gate, as callers see them.
use Rattle.std.specs.Prelude.{◌≡◌, ℕ, zero, suc, List, [], ◌∷◌, ◌++◌, map, length, slice_index_or, slice_get, Option, Some, None}
use Rattle.atomic_table.specs.Seated.{TableId}
use Rattle.hub_gate.specs.declared.view.View.{View}
use Rattle.hub_gate.specs.declared.view.View.TheVariants.{Keeping, LineOut, LineInside, LineTurned}
use Rattle.hub_gate.specs.declared.view.LineView.{LineView}
use Rattle.hub_gate.specs.declared.view.KeeperView.{KeeperView}
use Rattle.hub_core.specs.GateMachine as machine
use Rattle.hub_gate.specs.declared.word.Flag.{Flag}
use Rattle.hub_gate.specs.Flags.{flagged_keeper}
use Rattle.hub_gate.specs.GateRule.{Tags, Owns, IsShownBy, keeper_at, new_line}

-- which gate it is, and what the seat of the line knows
pub record EntrySeat (T : Type 0) : Type 0 where
  pub gate : TableId
  pub at : LineView T

-- which gate it is, and what the keeper's seat knows
pub record KeeperSeat (T : Type 0) : Type 0 where
  pub gate : TableId
  pub at : KeeperView T

-- which gate it is, what the seat of a line that is inside knows, and the line's right
pub record InsideSeat (T : Type 0) : Type 0 where
  pub gate : TableId
  pub at : LineView T
  pub right : T

-- what a line's seat knows
abbrev pub line_in : {T : Type 0} → View T → LineView T
line_in (LineOut v) = v
line_in (LineInside v) = v
line_in (LineTurned v) = v
line_in _ = new_line 0 [] None

-- the entry that a view is of, if there is one
abbrev pub witnessed : {T : Type 0} → TableId → List (View T) → Option (EntrySeat T)
witnessed gate [] = None
witnessed gate (v ∷ vs) = Some (record { gate = gate; at = line_in v })

-- what the keeper's seat knows
abbrev pub keeper_in : {T : Type 0} → View T → KeeperView T
keeper_in (Keeping k) = k
keeper_in _ = keeper_at [] [] 0

-- the tags of the rights, as the keeper's seat knows them
abbrev pub keeper_tags : {T : Type 0} → View T → Tags
keeper_tags view = (keeper_in view).tags

-- the entries of the first lines of a gate with these tags, which have done nothing yet, each with its right at home
abbrev pub first_entries : {T : Type 0} → TableId → Tags → List T → ℕ → List (EntrySeat T)
first_entries gate tags rights zero = []
first_entries gate tags rights (suc line) = first_entries gate tags rights line ++ record { gate = gate; at = new_line line (slice_index_or tags line []) (slice_get rights line) } ∷ []

-- a gate with these rights has just been opened: the keeper and an entry for each line are of that gate, and have done nothing yet; no flag is set, nobody is inside and the rights are at home
pub record IsOpened {T : Type 0} (tag : T → List ℕ) (rights : List T) (keeper : KeeperSeat T) (entries : List (EntrySeat T)) : Type 0 where
  pub keeper_is : keeper.at ≡ keeper_at (map tag rights) rights (length rights)
  pub entries_are : entries ≡ first_entries keeper.gate (map tag rights) rights (length rights)
  pub shows : IsShownBy keeper.at (map tag rights) (machine.opened rights)
  pub reached : machine.Reached (Owns tag (map tag rights)) (machine.opened rights)

-- the keeper after it has set the flag once more
abbrev pub flagged_seat : {T : Type 0} → Flag → KeeperSeat T → KeeperSeat T
flagged_seat flag keeper = record keeper { at = flagged_keeper flag keeper.at }

-- the line that is inside, with this right in place of its own
abbrev pub with_right : {T : Type 0} → InsideSeat T → T → InsideSeat T
with_right inside right = record inside { right = right }

-- the entries of all lines of a gate, by what its keeper's seat knows
abbrev pub entries_of : {T : Type 0} → TableId → View T → List (EntrySeat T)
entries_of gate view = first_entries gate (keeper_in view).tags (keeper_in view).rights (length (keeper_in view).tags)

-- the seat is one of this table, which has one word
abbrev pub IsSeatOf : TableId → TableId → Type 0
IsSeatOf table seat = (table.words ≡ 1) × (seat ≡ table)

-- f makes b of each member of the list
abbrev pub AllSame : {A B : Type 0} → (A → B) → B → List A → Type 0
AllSame f b [] = Unit {0}
AllSame f b (x ∷ xs) = (f x ≡ b) × AllSame f b xs

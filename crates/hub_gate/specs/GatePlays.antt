-- What each step on a gate's word tells the seat that makes it.
use Rattle.std.specs.Prelude.{◌≡◌, ℕ, ◌+◌, ◌<◌, ◌≤◌, ◌==◌, ◌||◌, Bool, true, false, List, [], ◌∷◌, map, replicate, length, nat_lt, Option, Some, None, MatchBool}
use Rattle.atomic_table.specs.Table.{Me, Step}
use Rattle.hub_envelope.specs.declared.limits.TheConstants.{MAX_LINES}
use Rattle.hub_gate.specs.declared.word.Flag.{Flag}
use Rattle.hub_gate.specs.declared.view.View.{View}
use Rattle.hub_gate.specs.declared.view.View.TheVariants.{Fresh, Filling, Keeping, LineOut, LineInside, LineTurned}
use Rattle.hub_gate.specs.declared.view.LineView.{LineView}
use Rattle.hub_gate.specs.declared.view.KeeperView.{KeeperView}
use Rattle.hub_gate.specs.declared.entry.Refusal.{Refusal}
use Rattle.hub_gate.specs.declared.entry.Refusal.TheVariants.{Moved, Closed}
use Rattle.hub_core.specs.GateMachine as machine
use Rattle.hub_gate.specs.GateRule.{Tags, keeper_at, Owns, IsShownBy}
use Rattle.hub_gate.specs.GateSeats.{KeeperSeat, line_in, keeper_in}
use Rattle.hub_gate.specs.Flags.{flag_bit, flag_event, flagged_keeper}
use Rattle.hub_gate.specs.Taking.{numbered, values_in}

-- the tags of a gate that is not open yet
abbrev pub tags_in : {T : Type 0} → View T → Tags
tags_in (Fresh tags) = tags
tags_in (Filling tags) = tags
tags_in _ = []

module _ {T : Type 0} where
  -- the first seat has all slots, with no right in any
  abbrev pub Gathers : Step (Option T) → Me (Option T) (View T) → ℕ → Me (Option T) (View T) → Type 0
  Gathers step before found after = after ≡ (Filling (tags_in before.0), numbered 0 (replicate (length (tags_in before.0)) None))

  -- the first seat is the keeper's, which knows the rights that were in hand, and has no slot in hand
  abbrev pub Opens : Step (Option T) → Me (Option T) (View T) → ℕ → Me (Option T) (View T) → Type 0
  Opens step before found after = after ≡ (Keeping (keeper_at (tags_in before.0) (values_in before.1) 0), [])

-- the view of a line that has added itself to this word, and the flag that turned it
abbrev pub entered_line : {T : Type 0} → LineView T → ℕ → Option Refusal → LineView T
entered_line v word refusal = record v { enters = v.enters + 1; found = word; refusal = refusal }

-- the view of a line that has left with this right, and taken itself off this word
abbrev pub left_line : {T : Type 0} → LineView T → T → ℕ → LineView T
left_line v right word = record v { leaves = v.leaves + 1; left = word; home = Some right }

-- the view of a line that has turned back, and taken itself off this word
abbrev pub turned_line : {T : Type 0} → LineView T → ℕ → LineView T
turned_line v word = record v { leaves = v.leaves + 1; left = word }

-- at one moment the gate's word was this one, and the gate machine took this one step
pub record Happens {T : Type 0} (tag : T → List ℕ) (word : ℕ) (event : machine.Event T) (answer : machine.Answer T) : Type 0 where
  pub tags : Tags
  pub before : machine.Gate T
  pub after : machine.Gate T
  pub reached : machine.Reached (Owns tag tags) before
  pub found : word ≡ machine.word before
  pub step : machine.Steps (Owns tag tags) before event answer after

-- one step of the keeper: its view shows the gate as it was found, and its new view the gate after the step
pub record KeeperStep {T : Type 0} (tag : T → List ℕ) (old new : KeeperView T) (word : ℕ) (event : machine.Event T) (answer : machine.Answer T) : Type 0 where
  pub happens : Happens tag word event answer
  pub before : IsShownBy old happens.tags happens.before
  pub after : IsShownBy new happens.tags happens.after

module _ {T : Type 0} (tag : T → List ℕ) where
  -- the line is being turned back, by this flag
  abbrev pub IsTurned : LineView T → Refusal → machine.Answer T → ℕ → Me (Option T) (View T) → Type 0
  IsTurned v refusal answer found after = Happens tag found (machine.enter v.line) answer × (after ≡ (LineTurned (entered_line v found (Some refusal)), []))

  -- the line is inside, with the right that it had at home
  abbrev pub IsIn : LineView T → ℕ → Me (Option T) (View T) → Type 0
  IsIn v found after = (right : T) × Happens tag found (machine.enter v.line) (machine.lets_in right) × (tag right ≡ v.tag) × (v.home ≡ Some right) × (after ≡ (LineInside (entered_line v found None), (v.line, Some right) ∷ []))

  -- moved comes before closed, and where the word has neither flag the line is inside
  abbrev pub Enters : Step (Option T) → Me (Option T) (View T) → ℕ → Me (Option T) (View T) → Type 0
  Enters step before found after = MatchBool (machine.moved_in found) (IsTurned (line_in before.0) Moved machine.says_moved found after)
      (MatchBool (machine.closed_in found) (IsTurned (line_in before.0) Closed machine.says_closed found after) (IsIn (line_in before.0) found after))

  -- the line is out, and the right that it had in hand is at home
  abbrev pub Leaves : Step (Option T) → Me (Option T) (View T) → ℕ → Me (Option T) (View T) → Type 0
  Leaves step before found after = (right : T) → before.1 ≡ ((line_in before.0).line, Some right) ∷ []
      → (after ≡ (LineOut (left_line (line_in before.0) right found), [])) × Happens tag found (machine.leave (line_in before.0).line right) (machine.lets_out (machine.enabled_in found))

  -- the line that was turned is out again
  abbrev pub TurnsBack : Step (Option T) → Me (Option T) (View T) → ℕ → Me (Option T) (View T) → Type 0
  TurnsBack step before found after = (after ≡ (LineOut (turned_line (line_in before.0) found), [])) × Happens tag found (machine.turn_back (line_in before.0).line) machine.says_done

module _ {T : Type 0} (tag : T → List ℕ) where
  -- at one moment the keeper took this one step
  abbrev pub TakesStep : KeeperSeat T → KeeperSeat T → machine.Event T → machine.Answer T → Type 0
  TakesStep old new event answer = (word : ℕ) × KeeperStep tag old.at new.at word event answer

  -- the keeper has set this flag once more
  abbrev pub SetsFlag : Flag → Me (Option T) (View T) → ℕ → Me (Option T) (View T) → Type 0
  SetsFlag flag before found after = (after ≡ (Keeping (flagged_keeper flag (keeper_in before.0)), before.1)) × KeeperStep tag (keeper_in before.0) (flagged_keeper flag (keeper_in before.0)) found (flag_event flag) machine.says_done

  -- the flag is the one whose bit the step sets
  abbrev pub Sets : Step (Option T) → Me (Option T) (View T) → ℕ → Me (Option T) (View T) → Type 0
  Sets step before found after = (flag : Flag) → step.first ≡ flag_bit flag → SetsFlag flag before found after

-- the keeper's view after a look that found this word
abbrev pub looked_keeper : {T : Type 0} → KeeperView T → ℕ → Bool → KeeperView T
looked_keeper k found collected = record k { looks = k.looks + 1; found = machine.count_in found; collected = collected }

-- the keeper has set one of the flags moved and closed
abbrev pub has_shut : {T : Type 0} → KeeperView T → Bool
has_shut k = nat_lt 0 k.retires || nat_lt 0 k.closes

module _ {T : Type 0} (tag : T → List ℕ) where
  -- the look gives no right
  abbrev pub IsSeen : KeeperView T → List (ℕ × Option T) → machine.Answer T → ℕ → Me (Option T) (View T) → Type 0
  IsSeen k carried answer found after = KeeperStep tag k (looked_keeper k found k.collected) found machine.look answer × (after ≡ (Keeping (looked_keeper k found k.collected), carried))

  -- the keeper has all rights, in the order of the lines
  abbrev pub IsGiven : KeeperView T → ℕ → Me (Option T) (View T) → Type 0
  IsGiven k found after = (rights : List T) × KeeperStep tag k (looked_keeper k found true) found machine.look (machine.gives_rights rights) × (map tag rights ≡ k.tags) × (after ≡ (Keeping (looked_keeper k found true), numbered 0 (map Some rights)))

  -- the look of a gate that is neither moved nor closed
  abbrev pub SeesOpen : KeeperView T → List (ℕ × Option T) → ℕ → Me (Option T) (View T) → Type 0
  SeesOpen k carried found after = (has_shut k ≡ false) × IsSeen k carried machine.says_open found after

  -- the look that finds lines inside or being turned back
  abbrev pub SeesBusy : KeeperView T → List (ℕ × Option T) → ℕ → Me (Option T) (View T) → Type 0
  SeesBusy k carried found after = (0 < machine.count_in found) × (machine.count_in found ≤ MAX_LINES) × IsSeen k carried (machine.says_inside (machine.count_in found)) found after

  -- the look of a gate that is moved or closed
  abbrev pub SeesShut : KeeperView T → List (ℕ × Option T) → ℕ → Me (Option T) (View T) → Type 0
  SeesShut k carried found after = (has_shut k ≡ true) × MatchBool (machine.count_in found == 0) (IsGiven k found after) (SeesBusy k carried found after)

  -- the look of a keeper that has no right yet
  abbrev pub LooksAt : KeeperView T → List (ℕ × Option T) → ℕ → Me (Option T) (View T) → Type 0
  LooksAt k carried found after = MatchBool (machine.moved_in found || machine.closed_in found) (SeesShut k carried found after) (SeesOpen k carried found after)

  -- where the rights were given the look says so; else it says that the gate is neither moved nor closed, or how many lines are inside or being turned back, or gives all rights
  abbrev pub Looks : Step (Option T) → Me (Option T) (View T) → ℕ → Me (Option T) (View T) → Type 0
  Looks step before found after = MatchBool (keeper_in before.0).collected (IsSeen (keeper_in before.0) before.1 machine.says_given found after) (LooksAt (keeper_in before.0) before.1 found after)

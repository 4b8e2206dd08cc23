-- What holds of a gate's word, slots and seats at every moment.
use Rattle.std.specs.Prelude.{◌≡◌, ◌⊎◌, ℕ, ◌+◌, ◌<◌, ◌≤◌, Bool, true, false, List, [], ◌∷◌, map, replicate, length, nat_lt, slice_get, slice_index_or, Option, Some, None}
use mathlib.Core.Option as maybe
use lib.ListN.{get_elem?}
use Rattle.atomic_table.specs.Table.{State}
use Rattle.hub_core.specs.declared.line.Phase.{Phase}
use Rattle.hub_core.specs.declared.line.Phase.TheVariants as phase
use Rattle.hub_core.specs.GateMachine as machine
use Rattle.hub_envelope.specs.declared.limits.TheConstants.{MAX_LINES}
use Rattle.hub_gate.specs.declared.view.View.{View}
use Rattle.hub_gate.specs.declared.view.View.TheVariants.{Fresh, Filling, Keeping, LineOut, LineInside, LineTurned}
use Rattle.hub_gate.specs.declared.view.LineView.{LineView}
use Rattle.hub_gate.specs.declared.view.KeeperView.{KeeperView}

abbrev pub Tags : Type 0
Tags = List (List ℕ)

-- the keeper's view as the gate opens with these rights, where so many lines have seats
abbrev pub keeper_at : {T : Type 0} → Tags → List T → ℕ → KeeperView T
keeper_at tags rights next = record { tags = tags; rights = rights; next = next; enables = 0; retires = 0; closes = 0; looks = 0; found = 0; collected = false }

-- the view of a line that has done nothing yet, with this right at home
abbrev pub new_line : {T : Type 0} → ℕ → List ℕ → Option T → LineView T
new_line line tag home = record { line = line; tag = tag; home = home; enters = 0; leaves = 0; found = 0; refusal = None; left = 0 }

-- the keeper's view after it has cut off the seat of the next line
abbrev pub cut_off : {T : Type 0} → KeeperView T → KeeperView T
cut_off k = record k { next = k.next + 1 }

-- the view of the next line, whose seat the keeper's cuts off
abbrev pub next_line : {T : Type 0} → KeeperView T → LineView T
next_line k = new_line k.next (slice_index_or k.tags k.next []) (slice_get k.rights k.next)

abbrev pub keeper_left : {T : Type 0} → View T → View T
keeper_left (Keeping k) = Keeping (cut_off k)
keeper_left other = other

abbrev pub line_right : {T : Type 0} → View T → View T
line_right (Keeping k) = LineOut (next_line k)
line_right other = other

-- a slot of the table: a right at home, or nothing
abbrev pub slot_of : {T : Type 0} → Option T → maybe.Option (Option T)
slot_of (Some right) = maybe.some (Some right)
slot_of None = maybe.none

-- the right is one of the line: it has the line's tag
abbrev pub Owns : {T : Type 0} → (T → List ℕ) → Tags → ℕ → T → Type 0
Owns tag tags line right = slice_get tags line ≡ Some (tag right)

-- a line in this phase has its right in hand
abbrev pub has_right_in_hand : Phase → Bool
has_right_in_hand phase.Out = false
has_right_in_hand phase.Inside = true
has_right_in_hand phase.Turned = false

-- the seat of a line stands behind the keeper's, and the line is in this phase. Until the rights are collected, a line that isn't inside has at home the right that its view shows.
pub record IsLine {T : Type 0} (tags : Tags) (g : machine.Gate T) (seat : ℕ) (v : LineView T) (p : Phase) : Type 0 where
  pub stands : seat ≡ v.line + 1
  pub at : machine.IsAt g v.line p
  pub tag : slice_get tags v.line ≡ Some v.tag
  pub home : has_right_in_hand p ≡ false → g.collected ≡ false → slice_get g.homes v.line ≡ Some v.home

-- what the keeper's view shows of a gate with rights of these tags is so: the keeper has set the flags that are set, and the rights are collected where it has them
pub record IsShownBy {T : Type 0} (k : KeeperView T) (all : Tags) (g : machine.Gate T) : Type 0 where
  pub tags : k.tags ≡ all
  pub enabled : nat_lt 0 k.enables ≡ g.enabled
  pub moved : nat_lt 0 k.retires ≡ g.moved
  pub closed : nat_lt 0 k.closes ≡ g.closed
  pub collected : k.collected ≡ g.collected

-- the keeper's seat is the first of so many. The lines that have no seat yet are out, with the rights at home that the gate opened with.
pub record IsKeeper {T : Type 0} (all : Tags) (g : machine.Gate T) (seats seat : ℕ) (k : KeeperView T) : Type 0 where
  pub stands : seat ≡ 0
  pub next : k.next + 1 ≡ seats
  pub later : (l : ℕ) → k.next ≤ l → l < length all → machine.IsAt g l phase.Out
  pub rights : g.collected ≡ false → (l : ℕ) → k.next ≤ l → l < length all → slice_get g.homes l ≡ Some (slice_get k.rights l)
  pub shows : IsShownBy k all g

-- what a seat's view shows is so in the gate
abbrev pub Knows : {T : Type 0} → Tags → machine.Gate T → ℕ → ℕ → View T → Type 0
Knows tags g seats seat (Fresh t) = ⊥
Knows tags g seats seat (Filling t) = ⊥
Knows tags g seats seat (Keeping k) = IsKeeper tags g seats seat k
Knows tags g seats seat (LineOut v) = IsLine tags g seat v phase.Out
Knows tags g seats seat (LineInside v) = IsLine tags g seat v phase.Inside
Knows tags g seats seat (LineTurned v) = IsLine tags g seat v phase.Turned

-- the gate is open or has been: word, slots and seats show a state that the gate machine reaches from its opening, with rights of these tags
pub record ShowsGate {T : Type 0} (tag : T → List ℕ) (s : State (Option T) (View T)) : Type 0 where
  pub gate : machine.Gate T
  pub tags : Tags
  pub reached : machine.Reached (Owns tag tags) gate
  pub lines : length gate.phases ≡ length tags
  pub few : length tags ≤ MAX_LINES
  pub word : s.words ≡ machine.word gate ∷ []
  pub homes : s.homes ≡ map slot_of gate.homes
  pub seats : (seat : ℕ) (v : View T) → get_elem? s.views seat ≡ maybe.some v → Knows tags gate (length s.views) seat v

-- before the gate is open: no flag, nobody inside, and one seat
abbrev pub IsNew : {T : Type 0} → State (Option T) (View T) → Type 0
IsNew s = (tags : Tags) × (s.words ≡ 0 ∷ []) × (((s.views ≡ Fresh tags ∷ []) × (s.homes ≡ map maybe.some (replicate (length tags) None))) ⊎ (s.views ≡ Filling tags ∷ []))

-- the rule of a gate: it is not open yet, or word, slots and seats show a state of the gate machine
abbrev pub IsGate : {T : Type 0} → (T → List ℕ) → State (Option T) (View T) → Type 0
IsGate tag s = IsNew s ⊎ ShowsGate tag s

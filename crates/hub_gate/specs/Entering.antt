-- What an entry at a gate comes to, and what a leave does.
use Rattle.std.specs.Prelude.{◌≡◌, ℕ, Bool, true, false, List, Some, None}
use Rattle.hub_core.specs.GateMachine as machine
use Rattle.hub_gate.specs.declared.entry.Refusal.{Refusal}
use Rattle.hub_gate.specs.declared.entry.Refusal.TheVariants.{Moved, Closed}
use Rattle.hub_gate.specs.declared.entry.Entered.{Entered}
use Rattle.hub_gate.specs.declared.entry.Entered.TheVariants.{In, Turned}
use Rattle.hub_gate.specs.GateSeats.{EntrySeat, InsideSeat}
use Rattle.hub_gate.specs.GatePlays.{Happens, entered_line, left_line, turned_line}

-- what the gate machine answers where an entry was turned
abbrev pub refused : {T : Type 0} → Refusal → machine.Answer T
refused Moved = machine.says_moved
refused Closed = machine.says_closed

-- the word that was found has this flag: moved comes before closed
abbrev pub HasFlag : Refusal → ℕ → Type 0
HasFlag Moved word = machine.moved_in word ≡ true
HasFlag Closed word = (machine.moved_in word ≡ false) × (machine.closed_in word ≡ true)

-- the step of a line that was let in: the word that was found has neither flag, and the rights were not given
pub record IsLetIn {T : Type 0} (tag : T → List ℕ) (line word : ℕ) (right : T) : Type 0 where
  pub happens : Happens tag word (machine.enter line) (machine.lets_in right)
  pub not_moved : machine.moved_in word ≡ false
  pub not_closed : machine.closed_in word ≡ false
  pub before_rights : happens.before.collected ≡ false

-- the two steps of a line that was turned, on these words: the first has the flag
pub record IsTurnedBack {T : Type 0} (tag : T → List ℕ) (line word word_back : ℕ) (refusal : Refusal) : Type 0 where
  pub happens : Happens tag word (machine.enter line) (refused refusal)
  pub flag : HasFlag refusal word
  pub back : Happens tag word_back (machine.turn_back line) machine.says_done

-- A line that is let in makes one step, and has the right that its entry's view shows, which is the one that it left at home. A line that is turned makes two steps and is out again, and the entry's view keeps the flag that was found. The words that were found are those that the new view shows.
abbrev pub IsEntered : {T : Type 0} → (T → List ℕ) → EntrySeat T → Entered T → Type 0
IsEntered tag entry (In inside) = (inside.gate ≡ entry.gate) × (inside.at ≡ entered_line entry.at inside.at.found None) × (tag inside.right ≡ entry.at.tag) × (entry.at.home ≡ Some inside.right) × IsLetIn tag entry.at.line inside.at.found inside.right
IsEntered tag entry (Turned back refusal) = (back ≡ record { gate = entry.gate; at = turned_line (entered_line entry.at back.at.found (Some refusal)) back.at.left }) × IsTurnedBack tag entry.at.line back.at.found back.at.left refusal

-- the entry of a line that left with its right, which is at home then, and found this word
abbrev pub left_seat : {T : Type 0} → InsideSeat T → ℕ → EntrySeat T
left_seat inside word = record { gate = inside.gate; at = left_line inside.at inside.right word }

-- the step of a line that left with its right: it says whether the word that was found has the flag ENABLED
abbrev pub IsLetOut : {T : Type 0} → (T → List ℕ) → InsideSeat T → ℕ → Bool → Type 0
IsLetOut tag inside word enabled = Happens tag word (machine.leave inside.at.line inside.right) (machine.lets_out enabled) × (enabled ≡ machine.enabled_in word)

-- What holds of every gate, whatever its lines and its keeper do.
use Rattle.std.specs.Prelude.{◌≡◌, ℕ, ◌+◌, ◌≤◌, true, List, length, bit_or, Option}
use mathlib.Core.Option.{some}
use lib.ListN.{get_elem?}
use Rattle.atomic_table.specs.Table.{State}
use Rattle.hub_core.specs.GateMachine as machine
use Rattle.hub_gate.specs.declared.view.View.{View}
use Rattle.hub_gate.specs.declared.view.View.TheVariants.{Keeping, LineInside}
use Rattle.hub_gate.specs.declared.view.LineView.{LineView}
use Rattle.hub_gate.specs.declared.view.KeeperView.{KeeperView}
use Rattle.hub_gate.specs.GateRule.{Tags, Owns, IsGate}
use Rattle.hub_gate.specs.AfterRights.{Follows, IsOver}

-- where the rights were given no line is inside and none is let in, in that state and in each later one
abbrev pub NoneInAfterRights : {T : Type 0} → (T → List ℕ) → Type 0
NoneInAfterRights {T = T} tag = (tags : Tags) (g later : machine.Gate T) → machine.Reached (Owns tag tags) g → g.collected ≡ true → Follows (Owns tag tags) g later → IsOver (Owns tag tags) later

-- words, slots and seats of a table as this rule has them
abbrev pub WordRule : Type 0 → Type 1
WordRule T = State (Option T) (View T) → Type 0

-- where the rule holds, the table is one that isn't opened yet, or word, slots and seats show a state that the gate machine reaches
abbrev pub RuleShowsGate : {T : Type 0} → (T → List ℕ) → WordRule T → Type 0
RuleShowsGate {T = T} tag holds = (s : State (Option T) (View T)) → holds s → IsGate tag s

-- where the rule holds, no seat has a line inside while the keeper's has the rights
abbrev pub NoSeatInAfterRights : {T : Type 0} → WordRule T → Type 0
NoSeatInAfterRights {T = T} holds = (s : State (Option T) (View T)) → holds s → (keeper seat : ℕ) (k : KeeperView T) (v : LineView T) → get_elem? s.views keeper ≡ some (Keeping k) → k.collected ≡ true → ¬ (get_elem? s.views seat ≡ some (LineInside v))

-- what each event makes of the word: it adds a line, takes one off, sets one bit or leaves the word
abbrev pub ChangesWord : {R : Type 0} → machine.Event R → ℕ → ℕ → Type 0
ChangesWord (machine.enter l) word after = after ≡ word + 256
ChangesWord (machine.leave l r) word after = word ≡ after + 256
ChangesWord (machine.turn_back l) word after = word ≡ after + 256
ChangesWord machine.enable word after = after ≡ bit_or word 1
ChangesWord machine.retire word after = after ≡ bit_or word 2
ChangesWord machine.close word after = after ≡ bit_or word 4
ChangesWord machine.look word after = after ≡ word

abbrev pub EachStepChangesTheWord : {T : Type 0} → (T → List ℕ) → Type 0
EachStepChangesTheWord {T = T} tag = (tags : Tags) (g after : machine.Gate T) (event : machine.Event T) (answer : machine.Answer T) → machine.Steps (Owns tag tags) g event answer after → ChangesWord event (machine.word g) (machine.word after)

-- the word's parts are the state's flags and count, and the count is at most the number of lines
pub record IsShownByWord {R : Type 0} (g : machine.Gate R) : Type 0 where
  pub enabled : machine.enabled_in (machine.word g) ≡ g.enabled
  pub moved : machine.moved_in (machine.word g) ≡ g.moved
  pub closed : machine.closed_in (machine.word g) ≡ g.closed
  pub count : machine.count_in (machine.word g) ≡ machine.busy g
  pub at_most : machine.busy g ≤ length g.phases

abbrev pub TheWordShowsTheGate : {T : Type 0} → (T → List ℕ) → Type 0
TheWordShowsTheGate {T = T} tag = (g : machine.Gate T) → IsShownByWord g

-- What a gate comes to once its rights were given.
use Rattle.std.specs.Prelude.{ℕ}
use Rattle.hub_core.specs.declared.line.Phase.TheVariants as phase
use Rattle.hub_core.specs.GateMachine.{Gate, IsAt, Event, enter, Answer, lets_in, Steps}

-- the gate comes from one state to another, by any steps
pub data Follows {R : Type 0} (owns : ℕ → R → Type 0) (g : Gate R) : Gate R → Type 0 where
  stays : Follows owns g g
  goes_further : (g' g'' : Gate R) (event : Event R) (answer : Answer R) → Follows owns g g' → Steps owns g' event answer g'' → Follows owns g g''

-- no line is inside, and none is let in
pub record IsOver {R : Type 0} (owns : ℕ → R → Type 0) (g : Gate R) : Type 0 where
  pub nobody : (line : ℕ) → ¬ IsAt g line phase.Inside
  pub turns_all : (line : ℕ) (right : R) (after : Gate R) → ¬ Steps owns g (enter line) (lets_in right) after

-- in this state, and in each that the gate comes to from it, no line is inside and none is let in
abbrev pub IsOverFrom : {R : Type 0} → (ℕ → R → Type 0) → Gate R → Type 0
IsOverFrom owns g = (later : Gate _) → Follows owns g later → IsOver owns later

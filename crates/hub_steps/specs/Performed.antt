-- A step line run after a history.
use Rattle.std.specs.Prelude.{◌++◌}
use Rattle.hub_core.specs.declared.machine.Core.{Core}
use Rattle.hub_core.specs.History.{History}
use Rattle.hub_core.specs.Legal.{LegalAfter}
use Rattle.hub_core.specs.Shows.{Shows}
use Rattle.hub_steps.specs.declared.shown.Shown.{Shown}
use Rattle.hub_steps.specs.declared.step_line.StepLine.{StepLine}
use Rattle.hub_steps.specs.Computation.{Computation, MayGive}
use Rattle.hub_steps.specs.Lives.{AllLives}
use Rattle.hub_steps.specs.Unfolding.{core_steps}

-- the pairs and the value are those of the computation after the history, and each pair fits
pub record Computes {X : Type 0} (steps : Computation X) (past more : History) (value : X) : Type 0 where
  pub unfolds : MayGive steps past more value
  pub legal : LegalAfter past more

-- after every history that the core showed, it shows one that is longer by what was computed
abbrev pub ComputesAt : {X : Type 0} → Core → Core → Computation X → X → Type 0
ComputesAt old new steps value = (past : History) → Shows old past → (more : History) × Computes steps past more value × Shows new (past ++ more)

-- the pairs and what is shown are those that the line unfolds to after the history, with these lives
abbrev pub Performs : History → AllLives → StepLine → History → Shown → Type 0
Performs past lives line more shown = Computes (core_steps lives line.memory_refused line.command) past more shown

-- after every history that the core showed, it shows one that is longer by a line
abbrev pub PerformsAt : Core → Core → AllLives → StepLine → Shown → Type 0
PerformsAt old new lives line shown = ComputesAt old new (core_steps lives line.memory_refused line.command) shown

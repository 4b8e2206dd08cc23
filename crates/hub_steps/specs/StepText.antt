-- The text that step lines are answered with.
use Rattle.std.specs.Prelude.{◌≡◌, ℕ, List, [], ◌∷◌, ◌++◌}
use Rattle.hub_core.specs.History.{History}
use Rattle.hub_core.specs.Legal.{Legal}
use Rattle.hub_core.specs.Laws.{InOrder}
use Rattle.hub_steps.specs.declared.step_line.StepLine.{StepLine}
use Rattle.hub_steps.specs.declared.shown.Shown.{Shown}
use Rattle.hub_steps.specs.ShownText.{shown_line}
use Rattle.hub_steps.specs.Lives.{AllLives}
use Rattle.hub_steps.specs.Unfolding.{lives_after}
use Rattle.hub_steps.specs.Performed.{Performs}

-- the lines, run in order after a history and with these lives, are answered with the text, a line for
-- each, and leave the history `after` and the lives `last`
abbrev pub Runs : History → AllLives → List StepLine → List ℕ → History → AllLives → Type 0
Runs past lives [] text after last = (text ≡ []) × (after ≡ past) × (last ≡ lives)
Runs past lives (line ∷ lines) text after last =
    (more : History) × (shown : Shown) × (rest : List ℕ) × Performs past lives line more shown × (text ≡ shown_line shown ++ rest) × Runs (past ++ more) (lives_after line.command shown lives) lines rest after last

-- the text that the lines are answered with, by a legal history of their core steps, which is in order in each queue
pub record IsStepText (lines : List StepLine) (text : List ℕ) : Type 0 where
  pub history : History
  pub lives : AllLives
  pub runs : Runs [] [] lines text history lives
  pub legal : Legal history
  pub in_order : InOrder history

-- Step lines are answered with one text.
abbrev pub OneText : Type 0
OneText = (lines : List StepLine) (first second : List ℕ) → IsStepText lines first → IsStepText lines second → first ≡ second

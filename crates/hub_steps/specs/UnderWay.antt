-- Step lines that were run one after the other, and what is left of their input.
use Rattle.std.specs.Prelude.{◌≡◌, ℕ, ◌+◌, List, [], ◌++◌, true, Option, Ok, Err}
use Rattle.std.specs.Io.KnownBytes.{Appends}
use Rattle.hub_core.specs.declared.machine.Core.{Core}
use Rattle.hub_core.specs.History.{History}
use Rattle.hub_core.specs.Legal.{Legal}
use Rattle.hub_core.specs.Shows.{Shows}
use Rattle.hub_text.specs.TextLines.{text_lines_of}
use Rattle.hub_steps.specs.declared.run.HeldBack.{HeldBack}
use Rattle.hub_steps.specs.declared.step_line.StepLine.{StepLine}
use Rattle.hub_steps.specs.Lives.{AllLives}
use Rattle.hub_steps.specs.Steps.{ReadSteps, steps_from, steps_of}
use Rattle.hub_steps.specs.StepText.{Runs}

-- the lines were run by a legal history, which the core shows, and are answered with the text
pub record AreRun (core : Core) (lives : AllLives) (text : List ℕ) (lines : List StepLine) : Type 0 where
  pub history : History
  pub runs : Runs [] [] lines text history lives
  pub legal : Legal history
  pub shows : Shows core history

-- of the text of the lines a front has gone out, and the rest is kept
pub record AreLinesTold (old now : Option (List ℕ)) (core : Core) (lives : AllLives) (kept : List ℕ) (lines : List StepLine) : Type 0 where
  pub sent : List ℕ
  pub run : AreRun core lives (sent ++ kept) lines
  pub out : Appends old now sent

-- the lines that were read before, and what is read behind them
abbrev pub with_front : List StepLine → ReadSteps → ReadSteps
with_front front (Ok lines) = Ok (front ++ lines)
with_front front (Err bad) = Err bad

-- The first lines of an input were run, and their text is kept; the text lines that are left weren't run.
-- Only where memory ran out the core and the lives may be others by now.
pub record IsHeld (input : List ℕ) (held : HeldBack) : Type 0 where
  pub front : List StepLine
  pub core : Core
  pub lives : AllLives
  pub run : AreRun core lives held.run.kept.items front
  pub left : with_front front (steps_from (held.number + 1) (text_lines_of held.rest.now)) ≡ steps_of input
  pub current : held.has_memory ≡ true → (core ≡ held.run.core) × (lives ≡ held.run.lives)

-- Step lines that come one at a time.
use Rattle.std.specs.Prelude.{◌≡◌, ◌⊎◌, ℕ, Bool, true, false, List, [], ◌∷◌, ◌++◌, Ok, Err, Some, if◌then◌else◌}
use Rattle.hub_engine.specs.declared.status.ExitStatus.TheVariants as status
use Rattle.hub_text.specs.TextLines.{text_lines_of}
use Rattle.hub_steps.specs.declared.session.Last.{Last}
use Rattle.hub_steps.specs.declared.session.Last.TheVariants as last
use Rattle.hub_steps.specs.declared.session.Reply.{Reply}
use Rattle.hub_steps.specs.declared.session.Reply.TheVariants as reply
use Rattle.hub_steps.specs.declared.session.Session.{Session}
use Rattle.hub_steps.specs.declared.step_line.StepLine.{StepLine}
use Rattle.hub_steps.specs.declared.step_line.StepLineError.{StepLineError}
use Rattle.hub_steps.specs.Output.{IsStepsOutput}
use Rattle.hub_steps.specs.ReadMemory.{reads_memory}
use Rattle.hub_steps.specs.ShownText.{shown_line}
use Rattle.hub_steps.specs.StepLine.{step_line_of}
use Rattle.hub_steps.specs.StepLineKind.{step_kind_text}
use Rattle.hub_steps.specs.Steps.{steps_from}
use Rattle.hub_steps.specs.StepText.{IsStepText}
use Rattle.hub_steps.specs.UnderWay.{AreRun}
use Rattle.hub_steps.specs.Unfolding.{command_takes_memory, takes_at_most_one_step}

-- what a text line is answered with: the outcome line that is kept, or that of what is shown, or the name of a kind
abbrev pub told_by : Last → List ℕ → List ℕ
told_by last.Kept kept = kept
told_by (last.Untold shown) kept = shown_line shown
told_by (last.Bad name) kept = name.now

-- what the last text line was answered with that was run or bad
abbrev pub told : Session → List ℕ
told s = told_by s.last s.run.kept.items

-- whether that is kept, and wants no more memory
abbrev pub is_told_by : Last → Bool
is_told_by (last.Untold shown) = false
is_told_by l = true

abbrev pub is_told : Session → Bool
is_told s = is_told_by s.last

-- the lines were run, by a legal history that the core shows, and are answered with the text
abbrev pub HasRun : Session → List ℕ → List StepLine → Type 0
HasRun s text lines = AreRun s.run.core s.run.lives text lines

-- what was run before is what was run
abbrev pub GoesOnFrom : Session → Session → Type 0
GoesOnFrom old new = (text : List ℕ) (lines : List StepLine) → HasRun old text lines → HasRun new text lines

-- and what was said last is said still
abbrev pub Stays : Session → Session → Type 0
Stays old new = GoesOnFrom old new × (told new ≡ told old)

-- the step line was run after those before, and this is its outcome line
abbrev pub RunsLine : Session → Session → StepLine → Type 0
RunsLine old new line = (text : List ℕ) (lines : List StepLine) → HasRun old text lines → HasRun new (text ++ told new) (lines ++ line ∷ [])

-- the text line is a step line, which was run after those before
abbrev pub RunsOn : Session → Session → List ℕ → Type 0
RunsOn old new bytes = (line : StepLine) × (step_line_of bytes ≡ Ok line) × RunsLine old new line

-- the text line is no step line, and this is the name of the first test that it fails
abbrev pub IsKindOf : List ℕ → List ℕ → Type 0
IsKindOf bytes name = (error : StepLineError) × (step_line_of bytes ≡ Err error) × (step_kind_text error ≡ Some name)

-- a text line whose reading takes memory, or a step line whose steps do
abbrev pub TakesMemory : List ℕ → Type 0
TakesMemory bytes = (reads_memory bytes ≡ true) ⊎ ((line : StepLine) × (step_line_of bytes ≡ Ok line) × (command_takes_memory line.command ≡ true))

-- a step line of several steps, which take memory
abbrev pub TakesMore : List ℕ → Type 0
TakesMore bytes = (line : StepLine) × (step_line_of bytes ≡ Ok line) × (takes_at_most_one_step line.command ≡ false) × (command_takes_memory line.command ≡ true)

-- whether a session that answers this is lost
abbrev pub is_lost_by : Reply → Bool
is_lost_by reply.Lost = true
is_lost_by r = false

-- ---- text lines that were given one after the other

-- a text line, how it was answered, and the session after it
pub record Turn : Type 0 where
  pub bytes : List ℕ
  pub reply : Reply
  pub after : Session

abbrev pub was_run : Reply → Bool
was_run reply.Ran = true
was_run reply.RanUntold = true
was_run r = false

-- what a text line that was answered so has made of a session
abbrev pub Makes : Reply → Session → Session → List ℕ → Type 0
Makes reply.Ran old new bytes = RunsOn old new bytes
Makes reply.RanUntold old new bytes = RunsOn old new bytes
Makes reply.Bad old new bytes = GoesOnFrom old new
Makes reply.NoMemory old new bytes = GoesOnFrom old new
Makes reply.Lost old new bytes = ⊥

-- the text lines were given to the session in this order, which none of them has lost
abbrev pub AreTurns : Session → List Turn → Type 0
AreTurns s [] = Unit {0}
AreTurns s (t ∷ ts) = Makes t.reply s t.after t.bytes × AreTurns t.after ts

-- those text lines that were run
abbrev pub texts_run : List Turn → List (List ℕ)
texts_run [] = []
texts_run (t ∷ ts) = if was_run t.reply then t.bytes ∷ texts_run ts else texts_run ts

-- what was said to them, joined
abbrev pub all_said : List Turn → List ℕ
all_said [] = []
all_said (t ∷ ts) = if was_run t.reply then told t.after ++ all_said ts else all_said ts

-- Those that were run are step lines. What was said to them, joined, is their text, and what is written for an input
-- that has these text lines.
abbrev pub SaidIsTheText : Type 0
SaidIsTheText =
    (s : Session) (ts : List Turn) → HasRun s [] [] → AreTurns s ts → (lines : List StepLine) × (steps_from 1 (texts_run ts) ≡ Ok lines) × IsStepText lines (all_said ts)
    × ((input text : List ℕ) → text_lines_of input ≡ texts_run ts → IsStepsOutput input status.Success text → text ≡ all_said ts)

-- Calls of `varukoni_line` for one hub, one after the other.
use Rattle.std.specs.Prelude.{◌≡◌, ◌⊎◌, ◌||◌, ◌==◌, ℕ, List, [], ◌∷◌, ◌++◌, Some, None, Ok, if◌then◌else◌}
use Rattle.hub_engine.specs.declared.status.ExitStatus.TheVariants as status
use Rattle.hub_text.specs.TextLines.{text_lines_of}
use Rattle.hub_steps.specs.declared.step_line.StepLine.{StepLine}
use Rattle.hub_steps.specs.Output.{IsStepsOutput}
use Rattle.hub_steps.specs.Session.{told}
use Rattle.hub_steps.specs.Steps.{steps_from}
use Rattle.hub_steps.specs.StepText.{IsStepText}
use Rattle.hub_c.specs.Held.{HeldSession, BothHeld, IsNewSession}
use Rattle.hub_c.specs.Line.{BadLine, NoMemoryLine, NoRoomLine, RanLine}

-- a text line, the status that it was answered with, and what the hub has after it
pub record Call : Type 0 where
  pub bytes : List ℕ
  pub answer : ℕ
  pub after : HeldSession

-- what the contract of the call says, by its status; a hub that is closed or lost is called no more
abbrev pub IsCall : HeldSession → Call → Type 0
IsCall h c =
    ((c.answer ≡ 0) × BothHeld (λ s t. RanLine s t c.bytes) h c.after)
    ⊎ (((c.answer ≡ 4) × BothHeld (λ s t. NoRoomLine s t c.bytes) h c.after)
    ⊎ (((c.answer ≡ 2) × BothHeld (λ s t. BadLine s t c.bytes) h c.after)
    ⊎ ((c.answer ≡ 3) × BothHeld (λ s t. NoMemoryLine s t c.bytes) h c.after)))

abbrev pub AreCalls : HeldSession → List Call → Type 0
AreCalls h [] = Unit {0}
AreCalls h (c ∷ cs) = IsCall h c × AreCalls c.after cs

-- what the room has after the call at 0, and what `varukoni_said` puts there after one at 4
abbrev pub said_in : HeldSession → List ℕ
said_in None = []
said_in (Some s) = told s

-- the text lines that were run
abbrev pub lines_of_calls : List Call → List (List ℕ)
lines_of_calls [] = []
lines_of_calls (c ∷ cs) = if c.answer == 0 || c.answer == 4 then c.bytes ∷ lines_of_calls cs else lines_of_calls cs

-- what was said to them, joined
abbrev pub said_in_calls : List Call → List ℕ
said_in_calls [] = []
said_in_calls (c ∷ cs) = if c.answer == 0 || c.answer == 4 then said_in c.after ++ said_in_calls cs else said_in_calls cs

-- Those that were run are step lines. What was said to them, joined, is their text, and what is written for an input
-- that has these text lines.
abbrev pub CallsSayTheText : Type 0
CallsSayTheText =
    (h : HeldSession) (cs : List Call) → IsNewSession h → AreCalls h cs → (lines : List StepLine) × (steps_from 1 (lines_of_calls cs) ≡ Ok lines) × IsStepText lines (said_in_calls cs)
    × ((input text : List ℕ) → text_lines_of input ≡ lines_of_calls cs → IsStepsOutput input status.Success text → text ≡ said_in_calls cs)

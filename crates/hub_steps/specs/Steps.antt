-- The step lines of an input, or its first bad text line.
use Rattle.std.specs.Prelude.{ℕ, ◌+◌, List, [], ◌∷◌, Result, Ok, Err}
use Rattle.hub_text.specs.TextLines.{text_lines_of}
use Rattle.hub_steps.specs.declared.step_line.StepLine.{StepLine}
use Rattle.hub_steps.specs.declared.step_line.StepLineError.{StepLineError}
use Rattle.hub_steps.specs.StepLine.{Read, step_line_of}

-- step lines, or the number of the first bad text line and what is wrong with it
abbrev pub ReadSteps : Type 0
ReadSteps = Result (List StepLine) (ℕ × StepLineError)

-- the step line with that number, before those read from the text lines after it
abbrev pub at_line : ℕ → Read StepLine → ReadSteps → ReadSteps
at_line n (Err kind) more = Err (n, kind)
at_line n (Ok line) (Err bad) = Err bad
at_line n (Ok line) (Ok lines) = Ok (line ∷ lines)

-- The step lines that the text lines are. The first text line has the number n.
unfoldable pub steps_from : ℕ → List (List ℕ) → ReadSteps
steps_from n [] = Ok []
steps_from n (bytes ∷ more) = at_line n (step_line_of bytes) (steps_from (n + 1) more)

-- the step lines of an input, or the first bad text line, counted from 1
abbrev pub steps_of : List ℕ → ReadSteps
steps_of bytes = steps_from 1 (text_lines_of bytes)

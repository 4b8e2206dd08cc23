use Rattle.std.proofs.Common.{◌≡◌, ◌+◌, ◌≤◌, List, length}
use Rattle.hub_text.specs.TextLines.{text_lines_of}
use Rattle.hub_steps.specs.declared.step_line.StepLine.{StepLine}
use Rattle.hub_steps.specs.Steps.{steps_from}
use Rattle.hub_steps.specs.UnderWay.{with_front}
use Rattle.hub_steps.proofs.engine.check_step_lines.Given as goal

-- some step lines and what is read of the rest are what is read of all; each took a byte
abbrev pub invariant-loop-rest : goal.invariant-loop-rest
invariant-loop-rest l = record {
  so_far : (front : List StepLine) × (with_front front (steps_from (l.number + 1) (text_lines_of l.rest)) ≡ steps_from (l.before + 1) (text_lines_of l.text));
  room : l.number + length l.rest ≤ l.before + length l.text;
}

-- what is left to read
abbrev pub decreases-loop-rest : goal.decreases-loop-rest
decreases-loop-rest l = length l.rest

use Rattle.std.proofs.Common.{◌≡◌, ◌+◌, ◌≤◌, List, length}
use Rattle.hub_text.specs.TextLines.{text_lines_of}
use Rattle.hub_steps.specs.declared.step_line.StepLine.{StepLine}
use Rattle.hub_steps.specs.Steps.{steps_from, steps_of}
use Rattle.hub_steps.specs.UnderWay.{AreRun, with_front}
use Rattle.hub_steps.proofs.run.run_step_lines_holding_output_back.Given as goal

-- some step lines were run, and with what is read of the rest are what is read of all; each took a byte
abbrev pub invariant-loop-run : goal.invariant-loop-run
invariant-loop-run l = record {
  run : (front : List StepLine) × AreRun l.run.core l.run.lives l.run.kept.items front × (with_front front (steps_from (l.number + 1) (text_lines_of l.rest)) ≡ steps_of l.input);
  room : l.number + length l.rest ≤ length l.input;
}

-- what is left to read
abbrev pub decreases-loop-run : goal.decreases-loop-run
decreases-loop-run l = length l.rest

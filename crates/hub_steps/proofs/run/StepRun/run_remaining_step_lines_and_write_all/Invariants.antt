use Rattle.std.proofs.Common.{◌≡◌, ℕ, List, ◌++◌, Ok, length}
use Rattle.hub_text.specs.TextLines.{text_lines_of}
use Rattle.hub_steps.specs.declared.step_line.StepLine.{StepLine}
use Rattle.hub_steps.specs.Steps.{steps_from}
use Rattle.hub_steps.specs.UnderWay.{AreRun}
use Rattle.hub_steps.proofs.UnderWay.{IsUnderWay}
use Rattle.hub_steps.proofs.run.StepRun.run_remaining_step_lines_and_write_all.Given as goal

-- the lines so far were answered, and nothing was flushed
abbrev pub invariant-loop-rest : goal.invariant-loop-rest
invariant-loop-rest g l = record {
  run : (front back : List StepLine) (n : ℕ) → AreRun l.fn.self.core l.fn.self.lives l.fn.self.kept.items front → steps_from n (text_lines_of l.fn.rest) ≡ Ok back → IsUnderWay (front ++ back) (text_lines_of l.rest) (g.W.Write.contents l.fn.writer.writer) (g.W.Write.contents l.writer.writer) l.self.core l.self.lives l.self.kept.items;
  failures : l.writer.failures ≡ l.fn.writer.failures;
  flushes : l.writer.flushes ≡ l.fn.writer.flushes;
}

-- what is left to read
abbrev pub decreases-loop-rest : goal.decreases-loop-rest
decreases-loop-rest g l = length l.rest

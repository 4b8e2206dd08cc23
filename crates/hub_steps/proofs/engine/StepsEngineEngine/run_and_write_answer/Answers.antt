use Rattle.std.proofs.Common.{◌≡◌, ◌⊎◌, Err, subst}
use Rattle.hub_steps.specs.declared.step_line.StepLineError.TheVariants as kind
use Rattle.hub_engine.specs.Engine.{EndsOutput, SaysUnread}
use Rattle.hub_steps.specs.Output.{IsStepsOutput}
use Rattle.hub_steps.specs.Steps.{steps_of}
use Rattle.hub_steps.specs.UnderWay.{IsHeld}
use Rattle.hub_engine.proofs.Writing.{ends_weaker}
use Rattle.hub_steps.proofs.Held.{ends_early, runs_to_end, unread_later}
use Rattle.hub_steps.proofs.Saying.{unread_steps}
use Rattle.hub_steps.proofs.engine.StepsEngineEngine.run_and_write_answer.Goals as goal

-- a bad text line among the first ones
pub returns-in-Err : goal.returns-in-Err
returns-in-Err g c =
    let unread = subst (λ bytes. (c.in-Err.error ≡ kind.OutOfMemory) ⊎ (steps_of bytes ≡ Err (c.in-Err.line, c.in-Err.error))) c.deref.ensures.value c.in-Err.ensures.err in
    let said = subst (λ name. EndsOutput g.W.Write.contents (SaysUnread c.in-Err.line name) c.args.writer.now c.write_input_error.new.writer c.write_input_error.result) c.printed_kind.ensures c.write_input_error.ensures in
    ends_weaker _ _ (IsStepsOutput c.args.input.items) _ _ _ (unread_steps c.args.input.items c.in-Err.line c.in-Err.error unread) said

-- one among those that are left
pub returns-in-Err-check_step_lines : goal.returns-in-Err-check_step_lines
returns-in-Err-check_step_lines g c =
    let held = subst (λ bytes. IsHeld bytes c.in-Ok.held) c.deref.ensures.value c.in-Ok.ensures.held in
    let unread = unread_later c.args.input.items c.in-Ok.held c.in-Err-check_step_lines.line c.in-Err-check_step_lines.error held c.in-Err-check_step_lines.ensures.err in
    let said = subst (λ name. EndsOutput g.W.Write.contents (SaysUnread c.in-Err-check_step_lines.line name) c.args.writer.now c.write_input_error-in-Err-check_step_lines.new.writer c.write_input_error-in-Err-check_step_lines.result) c.printed_kind-in-Err-check_step_lines.ensures c.write_input_error-in-Err-check_step_lines.ensures in
    ends_weaker _ _ (IsStepsOutput c.args.input.items) _ _ _ (unread_steps c.args.input.items c.in-Err-check_step_lines.line c.in-Err-check_step_lines.error unread) said

pub returns-then-has_memory : goal.returns-then-has_memory
returns-then-has_memory g c =
    let contents = g.W.Write.contents in
    let held = subst (λ bytes. IsHeld bytes c.in-Ok.held) c.deref.ensures.value c.in-Ok.ensures.held in
    record {
      written = runs_to_end c.args.input.items c.in-Ok.held (contents c.args.writer.now.writer) (contents c.run_remaining_step_lines_and_write_all.new.writer.writer) c.run_remaining_step_lines_and_write_all.result held c.if-has_memory.true c.in_default.ensures.ok c.run_remaining_step_lines_and_write_all.ensures.written;
      failures = c.run_remaining_step_lines_and_write_all.ensures.failures;
      flushed = c.run_remaining_step_lines_and_write_all.ensures.flushed;
    }

pub returns : goal.returns
returns g c =
    let contents = g.W.Write.contents in
    let held = subst (λ bytes. IsHeld bytes c.in-Ok.held) c.deref.ensures.value c.in-Ok.ensures.held in
    record {
      written = ends_early c.args.input.items c.in-Ok.held (contents c.args.writer.now.writer) (contents c.finish_output_out_of_memory.new.writer.writer) c.finish_output_out_of_memory.result held c.in_default.ensures.ok c.finish_output_out_of_memory.ensures.written;
      failures = c.finish_output_out_of_memory.ensures.failures;
      flushed = c.finish_output_out_of_memory.ensures.flushed;
    }

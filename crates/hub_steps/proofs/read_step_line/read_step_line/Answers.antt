use Rattle.std.proofs.Common.{ap, inr, ◌∙◌}
use Rattle.std.proofs.lemmas.Result.{err_from_is_err_and}
use Rattle.hub_steps.specs.StepLine.{mark}
use Rattle.hub_steps.proofs.Marks.{not_utf8, is_line, fails_line}
use Rattle.hub_steps.proofs.read_step_line.read_step_line.Goals as goal

pub returns-in_default-clause-read : goal.returns-in_default-clause-read
returns-in_default-clause-read c = inr (not_utf8 c.args.bytes.now c.in_default.ensures.cases.0)

pub returns-in_err-command-clause-read : goal.returns-in_err-command-clause-read
returns-in_err-command-clause-read c =
    let p = err_from_is_err_and c.from_residual.result c.from_residual.ensures.1 in
    rw (p.1, p.2) (fails_line _ c.in_err-command.field-0.0 c.args.bytes.now c.split_off_mark-memory_refused.result.0 c.split_off_mark-memory_refused.result.1.now c.in-Ok.ensures.cases.1 (c.split_off_mark-memory_refused.ensures ∙ ap mark c.in-Ok.ensures.cases.0) c.in_err-command.ensures.read)

pub returns-clause-read : goal.returns-clause-read
returns-clause-read c = is_line c.args.bytes.now c.split_off_mark-memory_refused.result.0 c.split_off_mark-memory_refused.result.1.now c.in_ok-command.command c.in-Ok.ensures.cases.1 (c.split_off_mark-memory_refused.ensures ∙ ap mark c.in-Ok.ensures.cases.0) c.in_ok-command.ensures.read

use Rattle.std.proofs.Common.{◌≡◌, Ok, Err, sym, ap, subst, ◌∙◌, ◌⊎◌}
use Rattle.hub_trace.specs.declared.error.LogError.TheVariants as log
use Rattle.hub_trace.specs.Read.{logs_of}
use Rattle.hub_check.specs.CheckOutput.{IsCheckOutput, IsVerdictLine}
use Rattle.hub_engine.specs.Engine.{EndsOutput, SaysUnread}
use Rattle.hub_engine.proofs.Writing.{ends_weaker}
use Rattle.hub_check.proofs.Saying.{unread_logs, verdicts_say}
use Rattle.hub_check.proofs.check.CheckEngineEngine.run_and_write_answer.Goals as goal

pub returns-in-Ok : goal.returns-in-Ok
returns-in-Ok g c =
    let read : logs_of c.args.input.items ≡ Ok c.in-Ok.logs.items = sym (ap logs_of c.deref.ensures.value) ∙ c.in-Ok.ensures.reads in
    let said = subst (λ logs. EndsOutput g.W.Write.contents (IsVerdictLine logs) c.args.writer.now c.write_verdict_on_logs.new.writer c.write_verdict_on_logs.result) c.deref-in-Ok.ensures.value c.write_verdict_on_logs.ensures in
    ends_weaker _ _ (IsCheckOutput c.args.input.items) _ _ _ (verdicts_say c.args.input.items c.in-Ok.logs.items read) said

pub returns : goal.returns
returns g c =
    let unread = subst (λ bytes. (c.in-Err.error ≡ log.OutOfMemory) ⊎ (logs_of bytes ≡ Err (c.in-Err.line, c.in-Err.error))) c.deref.ensures.value c.in-Err.ensures.reads in
    let said = subst (λ name. EndsOutput g.W.Write.contents (SaysUnread c.in-Err.line name) c.args.writer.now c.write_input_error.new.writer c.write_input_error.result) c.printed_kind_of_log_error.ensures c.write_input_error.ensures in
    ends_weaker _ _ (IsCheckOutput c.args.input.items) _ _ _ (unread_logs c.args.input.items c.in-Err.line c.in-Err.error unread) said

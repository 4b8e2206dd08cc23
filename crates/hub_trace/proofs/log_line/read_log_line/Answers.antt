use Rattle.std.proofs.Common.{sym, ap, subst, inr, ◌∙◌}
use Rattle.hub_text.specs.Reading.{IsReadAs}
use Rattle.hub_trace.specs.declared.error.LogError.TheVariants.{OutOfMemory}
use Rattle.hub_trace.specs.LogLine.{log_line_in}
use Rattle.hub_trace.proofs.LogLineText.{not_utf8, text_line}
use Rattle.hub_trace.proofs.log_line.read_log_line.Goals as goal

pub returns-in_default-clause-says : goal.returns-in_default-clause-says
returns-in_default-clause-says c = inr (not_utf8 c.args.version c.args.bytes.now c.in_default.ensures.cases.0)

pub returns-clause-says : goal.returns-clause-says
returns-clause-says c =
    subst (IsReadAs OutOfMemory (λ x. x) c.log_line_in.result) (ap (log_line_in c.args.version) c.in-Ok.ensures.cases.0 ∙ sym (text_line c.args.version c.args.bytes.now c.in-Ok.ensures.cases.1)) c.log_line_in.ensures.says

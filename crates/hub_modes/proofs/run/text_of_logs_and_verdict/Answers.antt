use Rattle.std.proofs.Common.{◌++◌, ◌∙◌, ap, string_bytes}
use Rattle.std.specs.Prelude.{codes}
use Rattle.std.specs.List.{flat_map}
use Rattle.hub_trace.specs.Text.{log_text}
use Rattle.hub_modes.specs.RunOutput.{delivered_text}
use Rattle.hub_modes.proofs.RunText.{joined, whole}
use Rattle.hub_modes.proofs.run.text_of_logs_and_verdict.Goals as goal

-- src/run.rt:114:1
pub returns : goal.returns
returns c =
    let lines = c.in_ok-lines.lines.items in
    let verdict = string_bytes c.in_ok-verdict.verdict in
    let told = c.in_ok-write_deliveries.ensures ∙ ap (λ xs. string_bytes c.writeln-2.new.self ++ delivered_text xs) c.deref.ensures.value in
    let closed = c.in_ok-push_str.ensures.bytes ∙ ap (λ xs. string_bytes c.write_deliveries.new.text ++ xs) c.deref-2.ensures in
    whole c.args.logs.now c.in_ok-verdict.status lines verdict (string_bytes c.push_str.new.self) c.in_ok-lines.ensures c.in_ok-verdict.ensures.line c.in_ok-verdict.ensures.reached
    (joined (codes "hublog 3\n") (flat_map log_text c.args.logs.now) (codes "deliveries\n") (delivered_text lines) verdict _ _ _ _ _ _
    c.new-text.ensures.bytes c.in_ok-writeln.ensures.bytes c.in_ok-append_logs_as_text.ensures c.in_ok-writeln-2.ensures.bytes told closed)

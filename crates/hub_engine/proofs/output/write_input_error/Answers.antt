use Rattle.std.proofs.Common.{◌≡◌, Some, option_map, ◌∙◌, ap}
use Rattle.hub_engine.specs.declared.status.ExitStatus.TheVariants as status
use Rattle.hub_engine.specs.Engine.{SaysUnread, bad_line_text}
use Rattle.hub_engine.proofs.Writing.{ends_weaker, says_so}
use Rattle.hub_engine.proofs.output.write_input_error.Goals as goal

pub returns-in-Ok : goal.returns-in-Ok
returns-in-Ok g c =
    let kind = option_map (λ name. name.now) c.args.kind in
    let text : c.as_bytes.result.now ≡ bad_line_text c.args.line c.in-Some.kind.now = c.as_bytes.ensures.value ∙ c.in-Ok.ensures in
    let named : kind ≡ Some c.in-Some.kind.now = ap (option_map (λ name. name.now)) c.in-Some.is in
    let said : SaysUnread c.args.line kind status.BadInput c.as_bytes.result.now = rw named text in
    ends_weaker _ _ (SaysUnread c.args.line kind) _ _ _ (says_so (SaysUnread c.args.line kind) status.BadInput c.as_bytes.result.now said) c.write_and_flush.ensures

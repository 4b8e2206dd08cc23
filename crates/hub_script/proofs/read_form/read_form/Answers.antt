use Rattle.std.proofs.Common.{◌≡◌, true, sym, ap, subst, inr, ◌∙◌}
use Rattle.std.specs.Str.{is_utf8}
use Rattle.hub_text.specs.Reading.{IsReadAs}
use Rattle.hub_script.specs.declared.error.ScriptError.TheVariants.{OutOfMemory}
use Rattle.hub_script.specs.Form.{form_in_text}
use Rattle.hub_script.proofs.LineTexts.{form_of_text, not_utf8, on_error, on_value, valid}
use Rattle.hub_script.proofs.read_form.read_form.Goals as goal

pub returns-in_default-clause-says : goal.returns-in_default-clause-says
returns-in_default-clause-says c = inr (not_utf8 c.args.bytes.now c.in_default.ensures.cases.0)

pub returns-clause-says : goal.returns-clause-says
returns-clause-says c =
    subst (IsReadAs OutOfMemory (λ x. x) c.parse_form.result) (ap form_in_text c.in-Ok.ensures.cases.0 ∙ sym (form_of_text c.args.bytes.now c.in-Ok.ensures.cases.1)) c.parse_form.ensures

pub returns-clause-memory : goal.returns-clause-memory
returns-clause-memory c = on_error c.parse_form.result OutOfMemory (is_utf8 c.args.bytes.now ≡ true) (valid c.args.bytes.now c.in-Ok.ensures.cases.1)

pub returns-clause-utf8 : goal.returns-clause-utf8
returns-clause-utf8 c = on_value c.parse_form.result (is_utf8 c.args.bytes.now ≡ true) (valid c.args.bytes.now c.in-Ok.ensures.cases.1)

use Rattle.std.proofs.Common.{Ok, sym, ap, ◌∙◌, subst}
use Rattle.hub_envelope.specs.BodyText.{IsBodyText}
use Rattle.hub_envelope.proofs.Answers.{answer_of-again, read-nonempty}
use Rattle.hub_envelope.proofs.ReadCompact.{IsBodyText-compact}
use Rattle.hub_envelope.proofs.body.Body.copy_of.Goals as goal

pub invariant_of-result : goal.invariant_of-result
invariant_of-result c = subst IsBodyText (sym c.in-Ok.ensures) (IsBodyText-compact c.args.text.now c.utf8.text c.requires.0 c.requires.1)

pub returns-in-Ok-clause-ok : goal.returns-in-Ok-clause-ok
returns-in-Ok-clause-ok c = answer_of-again c.args.text.now (IsBodyText-compact c.args.text.now c.utf8.text c.requires.0 c.requires.1) ∙ ap Ok (sym c.in-Ok.ensures)

pub returns-in-Ok-clause-some : goal.returns-in-Ok-clause-some
returns-in-Ok-clause-some c =
    let body = IsBodyText-compact c.args.text.now c.utf8.text c.requires.0 c.requires.1 in
    read-nonempty c.args.text.now body.value body.reads

pub returns-in-Err-clause-some : goal.returns-in-Err-clause-some
returns-in-Err-clause-some c =
    let body = IsBodyText-compact c.args.text.now c.utf8.text c.requires.0 c.requires.1 in
    read-nonempty c.args.text.now body.value body.reads

use Rattle.std.proofs.Common.{◌≡◌, ◌≤◌, ◌<◌, ◌^◌, true, IfSome, subst, sym, ap, ◌∙◌}
use Rattle.std.specs.Fmt.{decimal}
use Rattle.hub_text.specs.Number.{is_numeral}
use Rattle.hub_text.proofs.Numbers.{not_numeral, found, written_is, parsed, past, chosen}
use Rattle.hub_text.proofs.words.number_of.Goals as goal

pub returns-then-not-is_numeral-clause-number : goal.returns-then-not-is_numeral-clause-number
returns-then-not-is_numeral-clause-number c =
    sym (not_numeral c.args.max c.args.word.now (sym (ap is_numeral c.as_bytes.ensures.value) ∙ sym c.is_numeral.ensures ∙ c.if-not-is_numeral.true))

pub returns-in_err-number-clause-number : goal.returns-in_err-number-clause-number
returns-in_err-number-clause-number c =
    let fits : c.args.max < 2 ^ 64 = c.ranges.max.fits in
    let is : is_numeral c.args.word.now ≡ true = sym (ap is_numeral c.as_bytes.ensures.value) ∙ sym c.is_numeral.ensures ∙ c.if-not-is_numeral.false in
    c.from_residual.ensures ∙ sym (past c.args.max c.args.word.now c.parse.result fits is c.parse.ensures.value.0 (sym c.ok.ensures.value ∙ c.in_err-number.was))

pub returns-clause-number : goal.returns-clause-number
returns-clause-number c =
    let is : is_numeral c.args.word.now ≡ true = sym (ap is_numeral c.as_bytes.ensures.value) ∙ sym c.is_numeral.ensures ∙ c.if-not-is_numeral.false in
    c.then_some.ensures ∙ chosen c.in_ok-number.number c.args.max
    ∙ sym (parsed c.args.max c.in_ok-number.number c.args.word.now c.parse.result is c.parse.ensures.value.0 (sym c.ok.ensures.value ∙ c.in_ok-number.was))

pub returns-then-not-is_numeral-clause-written : goal.returns-then-not-is_numeral-clause-written
returns-then-not-is_numeral-clause-written c = λ n le e. returns-then-not-is_numeral-clause-number c ∙ written_is c.args.max n c.args.word.now le c.ranges.max.fits e

pub returns-in_err-number-clause-written : goal.returns-in_err-number-clause-written
returns-in_err-number-clause-written c = λ n le e. returns-in_err-number-clause-number c ∙ written_is c.args.max n c.args.word.now le c.ranges.max.fits e

pub returns-clause-written : goal.returns-clause-written
returns-clause-written c = λ n le e. returns-clause-number c ∙ written_is c.args.max n c.args.word.now le c.ranges.max.fits e

pub returns-clause-found : goal.returns-clause-found
returns-clause-found c = subst (λ r. IfSome r (λ n. (n ≤ c.args.max) × (c.args.word.now ≡ decimal n))) (sym (returns-clause-number c)) (found c.args.max c.args.word.now c.ranges.max.fits)

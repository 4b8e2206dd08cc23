use Rattle.std.proofs.Common.{subst, arith}
use Rattle.hub_envelope.specs.Compact.{IsNumberBefore}
use Rattle.hub_envelope.proofs.Fronts.{number_at, from_index}
use Rattle.hub_envelope.proofs.compact.skip_positive_number.Goals as goal

pub returns : goal.returns
returns c =
    let text = c.args.text.now in
    let count = c.leading_digit_count-count.result in
    let number = number_at text count c.leading_digit_count-count.ensures.within (omega (arith, c.if-count-eq0.false)) c.if-count-gt-MAX_DIGITS.false c.if-text-eq48.false c.leading_digit_count-count.ensures.digits in
    subst (λ rest. IsNumberBefore text rest) (from_index count text) number

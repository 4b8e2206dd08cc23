use Rattle.std.proofs.Common.{◌∷◌, ap, ◌∙◌}
use Rattle.hub_envelope.specs.Compact.{IsFront, IsNumberBefore}
use Rattle.hub_envelope.proofs.Fronts.{front-zero, front-positive, front-negative, weaker}
use Rattle.hub_envelope.proofs.compact.skip_whole_number.Goals as goal

pub returns-in-48 : goal.returns-in-48
returns-in-48 c =
    let rest = c.in_ok-first.rest.now in
    front-zero c.args.text.now rest (c.in_ok-first.ensures.cases.0 ∙ ap (λ b. b ∷ rest) c.in-48.is)

pub returns-in-45 : goal.returns-in-45
returns-in-45 c =
    let digits = c.in_ok-first.rest.now in
    weaker (λ rest. IsNumberBefore digits rest.now) (λ rest. IsFront 0 c.args.text.now rest.now) c.skip_positive_number.result
    (λ rest. front-negative c.args.text.now digits rest.now (c.in_ok-first.ensures.cases.0 ∙ ap (λ b. b ∷ digits) c.in-45.is)) c.skip_positive_number.ensures

pub returns-in_default : goal.returns-in_default
returns-in_default c =
    weaker (λ rest. IsNumberBefore c.args.text.now rest.now) (λ rest. IsFront 0 c.args.text.now rest.now) c.skip_positive_number-in_default.result (λ rest. front-positive c.args.text.now rest.now) c.skip_positive_number-in_default.ensures

use Rattle.std.proofs.Common.{◌+◌, ◌<◌, ◌∷◌, length, drop, sym, subst, rules}
use Rattle.hub_envelope.specs.Compact.{IsEscapeBefore, IsFront}
use Rattle.hub_envelope.proofs.Fronts.{ArePlain, from_index, front-string, string_ends, string_goes_on}
use Rattle.hub_envelope.proofs.compact.skip_past_closing_quote.Goals as goal

pub returns-in-34 : goal.returns-in-34
returns-in-34 c =
    let text = c.args.text.now in
    let rest = c.loop-end.rest.now in
    let end = c.in_ok-end.end in
    let plain : ArePlain rest end = search rules in
    let before : end < length rest = search rules in
    let after = drop (end + 1) rest in
    subst (λ left. IsFront 0 (34 ∷ text) left) (from_index (end + 1) rest) (front-string text after (c.loop-end.invariant after (string_ends rest end before c.in-34.is plain)))

pub loop-end-preserved : goal.loop-end-preserved
loop-end-preserved c = λ after more.
    let rest = c.loop-end.rest.now in
    let end = c.in_ok-end.end in
    let plain : ArePlain rest end = search rules in
    let before : end < length rest = search rules in
    let left = c.in_ok-rest-in-92.rest.now in
    let escaped = subst (λ text. IsEscapeBefore (92 ∷ text) left) (sym (from_index (end + 1) rest)) c.in_ok-rest-in-92.ensures.escape in
    c.loop-end.invariant after (string_goes_on rest left after end before c.in-92.is plain escaped more)

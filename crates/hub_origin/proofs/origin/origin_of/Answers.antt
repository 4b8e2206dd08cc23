use Rattle.std.proofs.Common.{rules, ◌≡◌, Ok, inr, sym, ap, ◌∙◌, is_some, true, false}
use Rattle.std.proofs.lemmas.Result.{err_from_is_err_and}
use Rattle.url.specs.Origin.{origin_tuple}
use Rattle.hub_origin.proofs.Refusals.{refused, by_origin, is_opaque, is_told}
use Rattle.hub_origin.proofs.origin.origin_of.Goals as goal

pub returns-in_err-url-clause-reads : goal.returns-in_err-url-clause-reads
returns-in_err-url-clause-reads c =
    let p = err_from_is_err_and c.from_residual.result c.from_residual.ensures.1 in
    rw (p.1, p.2) ((refused c.args.text.now c.in_err-url.field-0.0 c.in_err-url.ensures).0)

pub returns-then-not-is_tuple-clause-reads : goal.returns-then-not-is_tuple-clause-reads
returns-then-not-is_tuple-clause-reads c =
    let origin = origin_tuple c.in_ok-origin.origin in
    let opaque : is_some origin ≡ false = search rules in
    inr (by_origin c.args.text.now c.in_ok-url.url origin c.in_ok-url.ensures c.in_ok-origin.ensures ∙ is_opaque origin opaque)

pub returns-clause-reads : goal.returns-clause-reads
returns-clause-reads c =
    let origin = origin_tuple c.in_ok-origin.origin in
    let tuple : is_some origin ≡ true = search rules in
    by_origin c.args.text.now c.in_ok-url.url origin c.in_ok-url.ensures c.in_ok-origin.ensures ∙ is_told origin tuple ∙ ap (λ x. Ok x) (sym (c.of_string.ensures ∙ c.in_ok-ascii_serialization.ensures))

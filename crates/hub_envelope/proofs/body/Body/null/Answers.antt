use Rattle.std.proofs.Common.{[], codes, lit≤, refl, sym, subst}
use Rattle.json.proofs.Printed.Utf8.{IsUtf8-are_ascii}
use Rattle.hub_envelope.specs.BodyText.{IsBodyText}
use Rattle.hub_envelope.proofs.Fronts.{front-null}
use Rattle.hub_envelope.proofs.ReadCompact.{IsBodyText-compact}
use Rattle.hub_envelope.proofs.body.Body.null.Goals as goal

pub invariant_of-result : goal.invariant_of-result
invariant_of-result c = subst IsBodyText (sym c.in_ok-text.ensures) (IsBodyText-compact (codes "null") (IsUtf8-are_ascii (codes "null") refl) (front-null 64 (codes "null") [] refl) (lit≤ tt))

use Rattle.std.proofs.Common.{◌≡◌, ap, sym, ◌∙◌, Decides, ◌==◌, ℕ}
use Rattle.std.specs.Cmp.{unsigned_Decides}
use Rattle.std.specs.Cmp.Lexicographic.{bytes_decides}
use Rattle.std.proofs.lemmas.Slice.Eq.{slice_eq-Decides}
use Rattle.hub_envelope.specs.declared.ids.EndId.{EndId}
use Rattle.hub_trace.proofs.payload.Payload.is_same.Goals as goal

same_end : (a b : EndId) → Decides (a.0 == b.0) (a ≡ b)
same_end a b =
    let on = unsigned_Decides a.0 b.0 in
    ((λ t. ap (λ (n : ℕ). let e : EndId = record { 0 = n } in e) (on.0 t)), (λ e. on.1 (ap (λ (x : EndId). x.0) e)))

pub returns-then-eq : goal.returns-then-eq
returns-then-eq c =
    let ports = sym c.ports.ensures ∙ (slice_eq-Decides same_end _ _ _ c.eq.ensures).0 c.if-eq.true ∙ c.ports-2.ensures in
    let bodies = bytes_decides c.body.result.now c.body-then-eq.result.now in (
      (λ t i. (ports i, (sym c.body.ensures ∙ bodies.0 (sym c.eq-then-eq.ensures ∙ t) ∙ c.body-then-eq.ensures) i)),
      (λ e. c.eq-then-eq.ensures ∙ bodies.1 (c.body.ensures ∙ ap (λ p. p.1) e ∙ sym c.body-then-eq.ensures)),
    )

pub returns-else-eq : goal.returns-else-eq
returns-else-eq c =
    let decides = slice_eq-Decides same_end _ _ _ c.eq.ensures in
    ((λ t. let no = c.if-eq.false in cc), (λ e. decides.1 (c.ports.ensures ∙ ap (λ p. p.0) e ∙ sym c.ports-2.ensures)))

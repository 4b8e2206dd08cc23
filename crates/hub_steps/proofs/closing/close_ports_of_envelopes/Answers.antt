use Rattle.std.proofs.Common.{◌≡◌, suc, ◌∷◌, drop, sym, subst, ap, ◌∙◌}
use Rattle.std.proofs.Math.Seq.{drop-cons}
use Rattle.hub_steps.specs.Performed.{ComputesAt}
use Rattle.hub_steps.specs.Unfolding.{close_each}
use Rattle.hub_steps.proofs.Computing.{ports_more}
use Rattle.hub_steps.proofs.closing.close_ports_of_envelopes.Goals as goal

pub loop-envelope-preserved : goal.loop-envelope-preserved
loop-envelope-preserved c =
    let refused = c.args.memory_refused in
    let i = c.loop-envelope.envelope-index in
    let vs = c.args.envelopes.now in
    let v = c.envelope-item.result in
    let cut : drop i vs ≡ v ∷ drop (suc i) vs = drop-cons vs i v c.loop-envelope-test.true ∙ ap (λ u. u ∷ drop (suc i) vs) (sym c.envelope-item.is) in
    ports_more i c.args.core.now c.loop-envelope.core c.close_listed_ends.new.core refused vs v cut c.loop-envelope.invariant
    (subst (λ es. ComputesAt c.loop-envelope.core c.close_listed_ends.new.core (close_each refused es) tt) c.as_slice.ensures.listed c.in_ok-close_listed_ends.ensures)

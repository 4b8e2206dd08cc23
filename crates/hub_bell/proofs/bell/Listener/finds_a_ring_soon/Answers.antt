use Rattle.std.proofs.Common.{◌∙◌, sym, ap, [], ◌∷◌, ◌++◌}
use Rattle.hub_bell.proofs.Looks.{none_found, looked_none, one_more_found, one_more_look}
use Rattle.hub_bell.proofs.bell.Listener.finds_a_ring_soon.Goals as goal

pub loop-look-init : goal.loop-look-init
loop-look-init c = ([], none_found, ap (λ at. record c.args.self.now { at = at }) (sym (looked_none c.args.self.now.at)))

pub returns-then-has_set_bits : goal.returns-then-has_set_bits
returns-then-has_set_bits c =
    let looks = c.loop-look.invariant in
    let found = c.has_set_bits.ensures in
    (looks.0 ++ found.0 ∷ [], sym c.if-has_set_bits.true ∙ found.1 ∙ sym (one_more_found looks.0 found.0 looks.1), one_more_look _ _ _ looks.0 found.0 looks.2 found.2)

pub loop-look-preserved : goal.loop-look-preserved
loop-look-preserved c =
    let looks = c.loop-look.invariant in
    let found = c.has_set_bits.ensures in
    (looks.0 ++ found.0 ∷ [], one_more_found looks.0 found.0 looks.1 ∙ sym found.1 ∙ c.if-has_set_bits.false, one_more_look _ _ _ looks.0 found.0 looks.2 found.2)

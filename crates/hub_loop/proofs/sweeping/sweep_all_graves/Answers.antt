use Rattle.std.proofs.Common.{◌≡◌, ◌∙◌, ◌++◌, ◌∷◌, [], subst, Some}
use Rattle.hub_loop.proofs.Endings.{swept-one, taken-off}
use Rattle.hub_loop.proofs.sweeping.sweep_all_graves.Goals as goal

pub loop-swept-preserved : goal.loop-swept-preserved
loop-swept-preserved g c =
    let now = c.loop-swept in
    let some : c.pop_front.result ≡ Some c.unwrap-grave.result = search in
    let off = taken-off now.graves.items c.pop_front.new.self.items c.pop_front.result c.unwrap-grave.result c.pop_front.ensures.items some in
    swept-one now.swept.items c.push_reserved.new.self.items now.graves.items c.pop_front.new.self.items c.unwrap-grave.result c.in-Ok.discarded off
    (subst (λ items. c.push_reserved.new.self.items ≡ items ++ c.in-Ok.discarded ∷ []) c.reserve.ensures.items c.push_reserved.ensures.items)
    c.in-Ok.ensures.ok.end
    ∙ now.invariant

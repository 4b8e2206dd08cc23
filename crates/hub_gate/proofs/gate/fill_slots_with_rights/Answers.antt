use Rattle.std.proofs.Common.{rules, arith, ◌≡◌, ◌+◌, ◌++◌, ◌∷◌, [], length}
use Rattle.hub_gate.proofs.Filling.{filled_more, popped_last, popped_len}
use Rattle.hub_gate.proofs.gate.fill_slots_with_rights.Goals as goal

pub loop-line-preserved : goal.loop-line-preserved
loop-line-preserved g c =
    let kept = c.loop-line.invariant in
    let last : c.loop-line.rights.items ≡ c.pop.new.self.items ++ c.unwrap-right.result ∷ [] = popped_last _ _ _ _ c.pop.ensures.items c.unwrap-right.ensures in
    let many : length c.loop-line.rights.items ≡ length c.pop.new.self.items + 1 = popped_len _ _ _ last in (
      search rules,
      search rules,
      omega arith,
      filled_more _ _ _ kept.3.0 c.unwrap-right.result _ _ _ _ _ last kept.3.1 kept.3.2 kept.3.3 c.exchange.ensures.3 c.turn.ensures.2,
    )

use Rattle.std.proofs.Common.{◌≡◌, ◌+◌, ◌++◌, ◌∷◌, [], length, ap, ◌∙◌, length-append}
use Rattle.hub_gate.proofs.Got.{same-snoc}
use Rattle.hub_gate.proofs.gate.allocate_gate_memory.Goals as goal

pub loop-preserved : goal.loop-preserved
loop-preserved g c =
    let grown : c.push.new.self.items ≡ c.loop.shares.items ++ c.in_ok-try_clone.field-0 ∷ [] = c.in_ok-push.ensures.items in
    let kept = c.loop.invariant in (
      ap length grown ∙ length-append c.loop.shares.items (c.in_ok-try_clone.field-0 ∷ []) ∙ ap (λ n. n + 1) kept.0,
      rw grown (same-snoc _ _ _ _ kept.1 c.in_ok-try_clone.ensures),
    )

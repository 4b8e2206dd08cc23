use Rattle.std.proofs.Common.{subst}
use Rattle.hub_gate.specs.LastWord.{IsLastWord}
use Rattle.hub_gate.specs.GateSeats.{keeper_in}
use Rattle.hub_gate.proofs.LastWord.{last_word}
use Rattle.hub_gate.proofs.keeper.Keeper.try_into_last_gate_word.Goals as goal

pub returns-in-Ok-clause-last : goal.returns-in-Ok-clause-last
returns-in-Ok-clause-last g c =
    subst (λ k. IsLastWord k.at c.word-word.result) c.self.view_is
    (last_word g.T.Right.tag _ (keeper_in c.self.inside.seat.me.0) _ _ _ _ c.self.invariant.2 c.close_with-closed.ensures.values.2 c.word-word.ensures)

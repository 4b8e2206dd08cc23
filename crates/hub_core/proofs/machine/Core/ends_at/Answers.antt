-- The loop keeps what it has found.
use Rattle.std.proofs.Common.{◌≡◌, ℕ, suc, ◌+◌, cond, List, [], ◌∷◌, ◌++◌, length, Some, refl, sym, ap, ◌∙◌, arith, Bool, ◌||◌, Option}
use Rattle.hub_core.proofs.Words.{slice_get, slice_get_read, End, ends_below, is_arrived, is_with, end_now}
use Rattle.hub_core.proofs.machine.Core.ends_at.Goals as goal

pub loop-number-preserved : goal.loop-number-preserved
loop-number-preserved c =
    let n : ℕ = c.loop-number.number in
    let ends : List End = c.args.self.now.ends in
    let next_one : n + 1 ≡ suc n = omega arith in
    let same : c.deref-end-items.result.now ≡ ends = c.deref-end-items.ensures.value ∙ ap (λ s. s.ends) c.self.view_is in
    let at : slice_get ends n ≡ Some c.end-item.result = ap (λ xs. slice_get xs n) (sym same) ∙ slice_get_read c.deref-end-items.result.now (length c.deref-end-items.result.now) n c.end-item.result refl c.loop-number-test.true c.end-item.is in
    let is_at : Option End → Bool = λ o. is_with c.args.agent (end_now o).place || is_arrived c.args.agent (end_now o).place in
    let found : is_at (slice_get ends n) ≡ c.is_with_or_arrived_at_agent.result = ap is_at at ∙ sym c.is_with_or_arrived_at_agent.ensures in
    c.in_ok-push_end_if.ensures
    ∙ ap (λ es. es ++ cond c.is_with_or_arrived_at_agent.result (record { 0 = n } ∷ []) []) c.loop-number.invariant
    ∙ ap (λ b. ends_below (λ x. is_at (slice_get ends x)) n ++ cond b (record { 0 = n } ∷ []) []) (sym found)
    ∙ ap (ends_below (λ x. is_at (slice_get ends x))) (sym next_one)

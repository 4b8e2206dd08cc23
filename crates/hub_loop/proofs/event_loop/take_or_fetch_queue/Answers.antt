use Rattle.std.proofs.Common.{rules, ◌∷◌, inr, subst, sym}
use Rattle.std.proofs.lemmas.List.Sorted.{IsPermutation-swap_remove}
use Rattle.std.specs.List.Sorted.{IsPermutation}
use Rattle.hub_loop.proofs.event_loop.take_or_fetch_queue.Goals as goal

pub returns-then-eq-clause-taken : goal.returns-then-eq-clause-taken
returns-then-eq-clause-taken g c =
    inr (subst (λ l. IsPermutation l (c.swap_remove.result ∷ c.swap_remove.new.self.items)) c.loop-place.invariant
    (subst (λ l. IsPermutation c.loop-place.fetched.items (c.swap_remove.result ∷ l)) (sym c.swap_remove.ensures.items)
    (IsPermutation-swap_remove c.loop-place.fetched.items c.loop-place.place c.swap_remove.result (search rules) c.swap_remove.ensures.value)))

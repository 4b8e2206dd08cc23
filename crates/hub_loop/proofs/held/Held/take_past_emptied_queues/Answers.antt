use Rattle.std.proofs.Common.{◌≡◌, ◌∙◌, ap, subst, Some}
use Rattle.hub_queue.specs.declared.taker.Took.TheVariants.{Again}
use Rattle.hub_loop.specs.Asking.{IsHeldTaken}
use Rattle.hub_loop.proofs.Asks.{again, answered}
use Rattle.hub_loop.proofs.held.Held.take_past_emptied_queues.Goals as goal

pub returns-in_default : goal.returns-in_default
returns-in_default g c =
    let here : c.take.result ≡ Some c.in_ok-took.took = c.in_ok-took.was in
    let taken = subst (λ answer. IsHeldTaken c.loop.self c.take.new.self c.loop.steps c.take.new.steps answer) here c.take.ensures in
    answered c.loop.counter _ c.loop.self _ _ _ _ _ c.loop.invariant.left taken c.in_default.not-Again

pub loop-preserved : goal.loop-preserved
loop-preserved g c =
    let here : c.take.result ≡ Some Again = c.in_ok-took.was ∙ ap Some c.in-Again.is in
    let taken = subst (λ answer. IsHeldTaken c.loop.self c.take.new.self c.loop.steps c.take.new.steps answer) here c.take.ensures in
    record { end = c.loop.invariant.end; left = again c.loop.counter _ c.loop.self _ _ _ _ c.loop.invariant.left taken }

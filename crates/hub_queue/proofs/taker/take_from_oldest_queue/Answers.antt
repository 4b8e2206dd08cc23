use Rattle.std.proofs.Common.{◌<◌, refl, sym, subst, ◌∙◌}
use Rattle.hub_queue.proofs.Chains.{at_front, set_front, stays_after, last_stays}
use Rattle.hub_queue.proofs.taker.take_from_oldest_queue.Goals as goal

pub returns-in_default : goal.returns-in_default
returns-in_default g c =
    let low = subst (λ n. 0 < n) c.args.retired.now.ok.0 (c.in_ok-queue.ensures.variant.0 refl) in
    let front = at_front _ _ low c.in_ok-queue.ensures.value in (
      c.in_ok-queue.queue.now,
      c.take_envelope_as_retired_queue.new.self,
      front.0,
      front.1,
      set_front _ _ c.take_envelope_as_retired_queue.new.self _ front.1 ∙ sym (stays_after _ _ _ c.in_default.not-Again),
      c.take_envelope_as_retired_queue.ensures,
      sym (last_stays _ _ _ c.in_default.not-Again),
    )

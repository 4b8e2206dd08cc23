use Rattle.std.proofs.Common.{arith, ◌++◌, ◌∷◌, [], refl, ap, ◌∙◌, append_assoc, length, length-append}
use Rattle.hub_gate.proofs.Filling.{popped_last}
use Rattle.hub_queue.specs.Seats.{take_in}
use Rattle.hub_queue.proofs.Rights.{last_tag, queue_in, knowing_more}
use Rattle.hub_queue.proofs.Rule.{takes_in_at}
use Rattle.hub_queue.proofs.settling.absorb_passes_of_lines.Goals as goal

pub absorb-requires-clause-queue : goal.absorb-requires-clause-queue
absorb-requires-clause-queue c =
    let kept = c.loop.invariant in
    let own = c.own.invariant in
    let last = popped_last _ _ _ _ c.pop.ensures.items c.unwrap.ensures in
    let tag = last_tag c.args.store.now.queue.web c.pop.new.self.items c.unwrap.result c.loop.rights.items last kept.tags in
    (kept.queue, ((own.0.0.0 ∙ ap (λ r. r.queue) c.own.view_is ∙ queue_in _ c.unwrap.result _ tag.1, refl), own.0.1, own.0.2))

pub absorb-requires-clause-rule : goal.absorb-requires-clause-rule
absorb-requires-clause-rule c = takes_in_at _ _ _ _ _ _ c.loop.invariant.known.2 c.own.invariant.1

pub loop-preserved : goal.loop-preserved
loop-preserved c =
    let kept = c.loop.invariant in
    let last = popped_last _ _ _ _ c.pop.ensures.items c.unwrap.ensures in
    let tag = last_tag c.args.store.now.queue.web c.pop.new.self.items c.unwrap.result c.loop.rights.items last kept.tags in
    let count = kept.count in
    let longer = ap (λ l. l ++ kept.known.0) last in
    record {
      queue = c.absorb.ensures.queue.0;
      count = let n = ap (λ l. length l) last in omega (arith, length-append c.pop.new.self.items (c.unwrap.result ∷ []));
      tags = tag.0;
      known = (
        c.unwrap.result ∷ kept.known.0,
        kept.known.1 ∙ longer ∙ append_assoc c.pop.new.self.items (c.unwrap.result ∷ []) kept.known.0,
        knowing_more (take_in c.args.pass.now.me.view.client) kept.known.0 c.unwrap.result _ _ _ _ kept.known.2 c.own.invariant.1 (ap (λ r. r.at) c.own.view_is) c.absorb.ensures.rule,
      );
    }

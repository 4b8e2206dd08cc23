use Rattle.std.proofs.Common.{ap, refl}
use Rattle.hub_queue.proofs.NewTakerQueues.{queue_holds, none_counted}
use Rattle.hub_queue.proofs.Rule.{begins}
use Rattle.hub_queue.proofs.mailbox.make_taker_queue_and_entries.Goals as goal

pub with_rule-requires : goal.with_rule-requires
with_rule-requires c = begins

pub invariant_of-queue : goal.invariant_of-queue
invariant_of-queue c =
    let is = queue_holds _ _ _ _ _ _ _ _ c.requires.lines.0 c.requires.lines.1 c.in_ok-rights.ensures.taker c.in_ok-rights.ensures.rights c.in-Ok.ensures.opened in
    (c.in_ok-rights.ensures.queue, is.0, is.1, none_counted _ _ (ap (λ t. t.got) is.3.at) refl, is.2)

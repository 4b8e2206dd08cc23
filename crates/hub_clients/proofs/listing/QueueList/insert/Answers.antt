use Rattle.std.proofs.Common.{subst, sym}
use Rattle.hub_clients.specs.Listings.{IsInOrder, IsListed, IsPlaceBehind}
use Rattle.hub_clients.proofs.InOrder.{in_order}
use Rattle.hub_clients.proofs.listing.QueueList.insert.Goals as goal

pub invariant_of-self-2 : goal.invariant_of-self-2
invariant_of-self-2 c =
    let place = c.insertion_index-place.result in
    let at_items = subst (λ l. IsPlaceBehind l c.queue_id.result place) c.deref.ensures.value c.insertion_index-place.ensures in
    let there = subst (λ e. IsPlaceBehind c.self.inside.queues.items e place) c.queue_id.ensures at_items in
    subst IsInOrder (sym c.in_ok-insert.ensures.items) (in_order c.self.inside.queues.items c.args.queue place there c.self.invariant)

pub returns-clause-ok : goal.returns-clause-ok
returns-clause-ok c =
    let place = c.insertion_index-place.result in
    let at_items = subst (λ l. IsPlaceBehind l c.queue_id.result place) c.deref.ensures.value c.insertion_index-place.ensures in
    let there = subst (λ e. IsPlaceBehind c.self.inside.queues.items e place) c.queue_id.ensures at_items in
    subst (λ old. IsListed old c.insert.new.self.items c.args.queue) c.self.view_is (place, there, c.in_ok-insert.ensures.items)

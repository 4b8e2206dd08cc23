use Rattle.std.proofs.Common.{set, subst}
use Rattle.hub_clients.specs.Lines.{IsGivenBack}
use Rattle.hub_clients.specs.Listings.{IsFirstOf}
use Rattle.hub_clients.proofs.Lending.{given_back}
use Rattle.hub_clients.proofs.listing.QueueList.give_back_poster.Goals as goal

pub returns : goal.returns
returns c =
    let queues = c.self.inside.queues.items in
    let place = c.in-Some.place in
    let at_items = subst (λ l. IsFirstOf l c.name.result.end place c.in-Some.ensures.0) c.deref.ensures.value c.in-Some.ensures.1 in
    let first = subst (λ n. IsFirstOf queues n.end place c.in-Some.ensures.0) c.name.ensures at_items in
    let done = given_back queues c.args.poster place c.in-Some.ensures.0 c.index_mut-queue.result.now c.put_back_poster.new.self c.put_back_poster.result first c.index_mut-queue.ensures.value c.put_back_poster.ensures in
    subst (λ old. IsGivenBack old (set queues place c.put_back_poster.new.self) c.args.poster c.put_back_poster.result) c.self.view_is done

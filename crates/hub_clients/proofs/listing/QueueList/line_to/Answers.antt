use Rattle.std.proofs.Common.{◌≡◌, ◌<◌, set, sym, subst}
use Rattle.std.specs.Prelude.{IfOk}
use Rattle.hub_envelope.specs.declared.limits.TheConstants.{MAX_LINES}
use Rattle.hub_clients.specs.Lines.{IsLent}
use Rattle.hub_clients.specs.Listings.{IsFirstOf}
use Rattle.hub_clients.proofs.Lending.{first_is, lent, lent_of}
use Rattle.hub_clients.proofs.listing.QueueList.line_to.Goals as goal

pub returns-clause-lent : goal.returns-clause-lent
returns-clause-lent c =
    let queues = c.self.inside.queues.items in
    let place = c.in-Some.place in
    let first = subst (λ l. IsFirstOf l c.args.end place c.in-Some.ensures.0) c.deref.ensures.value c.in-Some.ensures.1 in
    let done = lent queues c.args.end place c.in-Some.ensures.0 c.index_mut-queue.result.now c.take_first_free_poster.new.self c.take_first_free_poster.result first c.index_mut-queue.ensures.value c.take_first_free_poster.ensures.taken in
    let told = subst (IsLent queues (set queues place c.take_first_free_poster.new.self) c.args.end) (sym c.ok_or.ensures.value) done in
    subst (λ old. IsLent old (set queues place c.take_first_free_poster.new.self) c.args.end c.ok_or.result) c.self.view_is told

pub returns-clause-poster : goal.returns-clause-poster
returns-clause-poster c =
    let first = subst (λ l. IsFirstOf l c.args.end c.in-Some.place c.in-Some.ensures.0) c.deref.ensures.value c.in-Some.ensures.1 in
    let own = (first_is c.self.inside.queues.items c.args.end c.in-Some.place c.in-Some.ensures.0 c.index_mut-queue.result.now first c.index_mut-queue.ensures.value).end_is in
    subst (λ r. IfOk r (λ p. (p.name.end ≡ c.args.end) × (p.name.line.0 < MAX_LINES))) (sym c.ok_or.ensures.value) (lent_of c.args.end c.index_mut-queue.result.now c.take_first_free_poster.result own c.take_first_free_poster.ensures.own)

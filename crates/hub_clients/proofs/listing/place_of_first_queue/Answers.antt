use Rattle.std.proofs.Common.{◌≡◌, ◌≢◌, ltb, sym, subst, ◌∙◌, rules}
use Rattle.std.proofs.lemmas.Bool.{eq-eqb}
use Rattle.std.proofs.lemmas.List.Sorted.{IsPartitionedBy-ltb, IsPartitionPoint-from_clause}
use Rattle.hub_clients.specs.Listings.{IsPlaceOf}
use Rattle.hub_clients.proofs.InOrder.{first_found, none_found, none_left}
use Rattle.hub_clients.proofs.listing.place_of_first_queue.Goals as goal

pub returns-in_err-queue : goal.returns-in_err-queue
returns-in_err-queue c =
    let point = IsPartitionPoint-from_clause (λ q. ltb q.end.0 c.args.end.0) c.args.queues.now c.partition_point-place.result c.partition_point-place.ensures.partitioned (IsPartitionedBy-ltb (λ q. q.end.0) c.args.queues.now c.args.end.0 c.requires) (λ a r f' k. search rules) in
    subst (IsPlaceOf c.args.queues.now c.args.end) (sym c.from_residual.ensures) (none_left c.args.queues.now c.args.end c.partition_point-place.result point c.in_err-queue.ensures.lookup.3)

pub returns-then-eq : goal.returns-then-eq
returns-then-eq c =
    let point = IsPartitionPoint-from_clause (λ q. ltb q.end.0 c.args.end.0) c.args.queues.now c.partition_point-place.result c.partition_point-place.ensures.partitioned (IsPartitionedBy-ltb (λ q. q.end.0) c.args.queues.now c.args.end.0 c.requires) (λ a r f' k. search rules) in
    let same : c.in_ok-queue.queue.now.end ≡ c.args.end = search rules in
    (c.in_ok-queue.queue.now, first_found c.args.queues.now c.args.end c.partition_point-place.result point c.in_ok-queue.queue.now c.in_ok-queue.ensures.lookup.3.0 c.in_ok-queue.ensures.lookup.1 same)

pub returns-else-eq : goal.returns-else-eq
returns-else-eq c =
    let point = IsPartitionPoint-from_clause (λ q. ltb q.end.0 c.args.end.0) c.args.queues.now c.partition_point-place.result c.partition_point-place.ensures.partitioned (IsPartitionedBy-ltb (λ q. q.end.0) c.args.queues.now c.args.end.0 c.requires) (λ a r f' k. search rules) in
    let other : c.in_ok-queue.queue.now.end ≢ c.args.end = λ same. (let yes = eq-eqb c.queue_id.result.0 c.args.end.0 (λ i. ((c.queue_id.ensures ∙ same) i).0) in cc) in
    none_found c.args.queues.now c.args.end c.partition_point-place.result point c.requires c.in_ok-queue.queue.now c.in_ok-queue.ensures.lookup.3.0 c.in_ok-queue.ensures.lookup.1 other

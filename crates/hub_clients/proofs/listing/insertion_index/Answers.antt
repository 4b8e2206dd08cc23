use Rattle.std.proofs.Common.{leb, rules}
use Rattle.std.proofs.lemmas.List.Sorted.{IsPartitionedBy-leb, IsPartitionPoint-from_clause}
use Rattle.hub_clients.proofs.InOrder.{behind_them}
use Rattle.hub_clients.proofs.listing.insertion_index.Goals as goal

pub returns : goal.returns
returns c =
    let point = IsPartitionPoint-from_clause (λ q. leb q.end.0 c.args.end.0) c.args.queues.now c.partition_point.result c.partition_point.ensures.partitioned (IsPartitionedBy-leb (λ q. q.end.0) c.args.queues.now c.args.end.0 c.requires) (λ a r f' k. search rules) in
    behind_them c.args.queues.now c.args.end c.partition_point.result c.partition_point.ensures.bound point

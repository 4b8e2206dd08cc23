use Rattle.std.proofs.Common.{not, rules, arith, length-take}
use Rattle.std.proofs.lemmas.List.Sorted.{IsPartitionPoint-from_clause}
use Rattle.hub_trace.specs.declared.received.Incoming.{Incoming}
use Rattle.hub_trace.specs.Views.{is_after}
use Rattle.hub_trace.proofs.Lines.{upto_parted, front_cut, front_not_before, front_some}
use Rattle.hub_trace.proofs.received.leading_arrivals_of_sender_line.Goals as goal

pub returns-clause-some : goal.returns-clause-some
returns-clause-some c =
    let xs = c.args.arrivals.now in
    let end = c.args.end.0 in
    let line = c.args.line.0 in
    let m = c.partition_point-count.result in
    let parts = IsPartitionPoint-from_clause (λ (a : Incoming). not (is_after end line a.posted)) xs m c.partition_point-count.ensures.partitioned
    (upto_parted (λ a. a.posted) xs end line c.requires.order) (λ a r f k. search rules) in
    let some = front_some (λ (a : Incoming). a.posted) xs end line m c.requires.some c.requires.first parts in
    omega (arith, length-take m xs)

pub returns-clause-line : goal.returns-clause-line
returns-clause-line c =
    let xs = c.args.arrivals.now in
    let end = c.args.end.0 in
    let line = c.args.line.0 in
    let m = c.partition_point-count.result in
    let parts = IsPartitionPoint-from_clause (λ (a : Incoming). not (is_after end line a.posted)) xs m c.partition_point-count.ensures.partitioned
    (upto_parted (λ a. a.posted) xs end line c.requires.order) (λ a r f k. search rules) in
    front_cut (λ a. a.posted) xs end line m c.partition_point-count.ensures.bound (front_not_before (λ (a : Incoming). a.posted) xs end line c.requires.order c.requires.first) parts

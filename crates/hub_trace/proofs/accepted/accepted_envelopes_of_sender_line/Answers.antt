use Rattle.std.proofs.Common.{◌≤◌, length, drop, not, rules}
use Rattle.std.proofs.lemmas.List.{take_rest}
use Rattle.std.proofs.lemmas.List.Sorted.{IsPartitionPoint-from_clause}
use Rattle.hub_trace.specs.declared.accepted.AcceptedEnvelope.{AcceptedEnvelope}
use Rattle.hub_trace.specs.Views.{is_before, is_after}
use Rattle.hub_trace.proofs.Lines.{before_parted, upto_parted, RisesByLine-drop, cut}
use Rattle.hub_trace.proofs.accepted.accepted_envelopes_of_sender_line.Goals as goal

pub returns : goal.returns
returns c =
    let xs = c.args.accepted.now in
    let end = c.args.end.0 in
    let line = c.args.line.0 in
    let n = c.partition_point-from.result in
    let m = c.partition_point-count.result in
    let posted = λ (a : AcceptedEnvelope). a.posted in
    let rest = take_rest xs n in
    let le : n ≤ length xs = c.partition_point-from.ensures.bound in
    let front = IsPartitionPoint-from_clause (λ (a : AcceptedEnvelope). is_before end line a.posted) xs n c.partition_point-from.ensures.partitioned (before_parted posted xs end line c.requires) (λ a r f k. search rules) in
    let back = IsPartitionPoint-from_clause (λ (a : AcceptedEnvelope). not (is_after end line a.posted)) _ m c.partition_point-count.ensures.partitioned
    (rw rest (upto_parted posted (drop n xs) end line (RisesByLine-drop posted xs n le c.requires))) (λ a r f k. search rules) in
    rw rest (cut posted xs end line n m le front (rw rest at c.partition_point-count.ensures.bound) (rw rest at back))

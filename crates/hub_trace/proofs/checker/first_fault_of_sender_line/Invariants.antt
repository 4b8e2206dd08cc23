use Rattle.std.proofs.Common.{◌≡◌, map, take}
use Rattle.hub_trace.specs.Fault.{has_notice}
use Rattle.hub_trace.specs.Views.{delivery_of, receipt_of}
use Rattle.hub_trace.proofs.Faults.{RightBefore}
use Rattle.hub_trace.proofs.checker.first_fault_of_sender_line.Given as goal

abbrev pub invariant-loop-place : goal.invariant-loop-place
invariant-loop-place l = record {
  right : RightBefore (map delivery_of l.accepted) (map receipt_of l.got) l.place;
  noticed : l.noticed ≡ has_notice (take l.place (map receipt_of l.got));
}

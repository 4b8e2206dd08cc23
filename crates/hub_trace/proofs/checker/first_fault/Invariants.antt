use Rattle.std.proofs.Common.{ℕ, length}
use Rattle.hub_trace.specs.Views.{RisesByLine}
use Rattle.hub_trace.proofs.Faults.{IsLeft}
use Rattle.hub_trace.proofs.checker.first_fault.Given as goal

abbrev pub invariant-loop-first : goal.invariant-loop-first
invariant-loop-first l = record {
  order : RisesByLine (λ a. a.posted) l.rest;
  left : (end line : ℕ) → IsLeft l.accepted l.arrivals l.rest end line;
}

abbrev pub decreases-loop-first : goal.decreases-loop-first
decreases-loop-first l = length l.rest

use Rattle.std.proofs.Common.{◌≡◌, length}
use Rattle.hub_trace.specs.PortList.{are_distinct}
use Rattle.hub_trace.proofs.limits.are_distinct.Given as goal

-- no end before the rest stands twice
abbrev pub invariant-loop-end : goal.invariant-loop-end
invariant-loop-end l = are_distinct l.rest ≡ are_distinct l.ends

abbrev pub decreases-loop-end : goal.decreases-loop-end
decreases-loop-end l = length l.rest

use Rattle.std.proofs.Common.{◌≡◌, length}
use Rattle.hub_script.specs.Context.{has_twice}
use Rattle.hub_script.proofs.validating.has_twice.Given as goal

-- no name that was passed stands behind itself
abbrev pub invariant-loop-first : goal.invariant-loop-first
invariant-loop-first l = has_twice l.rest ≡ has_twice l.names

abbrev pub decreases-loop-first : goal.decreases-loop-first
decreases-loop-first l = length l.rest

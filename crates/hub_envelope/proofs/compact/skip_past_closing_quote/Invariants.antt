use Rattle.std.proofs.Common.{ℕ, List, length}
use Rattle.hub_envelope.proofs.Fronts.{IsStringBefore}
use Rattle.hub_envelope.proofs.compact.skip_past_closing_quote.Given as goal

-- whatever completes what is left completes the whole
abbrev pub invariant-loop-end : goal.invariant-loop-end
invariant-loop-end l = (after : List ℕ) → IsStringBefore l.rest after → IsStringBefore l.fn.text after

abbrev pub decreases-loop-end : goal.decreases-loop-end
decreases-loop-end l = length l.rest

-- The ends found so far are those of the ends passed.
use Rattle.std.proofs.Common.{◌≡◌, ◌||◌}
use Rattle.hub_core.proofs.Words.{ends_below, is_arrived, is_with, seen}
use Rattle.hub_core.proofs.machine.Core.ends_at.Given as goal

abbrev pub invariant-loop-number : goal.invariant-loop-number
invariant-loop-number l = l.ends.items ≡ ends_below (λ x. is_with l.agent ((seen l.self).end x).place || is_arrived l.agent ((seen l.self).end x).place) l.number

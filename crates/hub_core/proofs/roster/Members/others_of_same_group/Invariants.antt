use Rattle.std.proofs.Common.{◌≡◌, ◌++◌, not, map}
use Rattle.hub_core.proofs.Words.{◌==◌, filter, kept_destinations}
use Rattle.hub_core.proofs.roster.Members.others_of_same_group.Given as goal

-- those that were found, and those that are still to be gone through, are the others
abbrev pub invariant-loop-other : goal.invariant-loop-other
invariant-loop-other l = l.others.items ++ map (λ n. record { 0 = n }) (filter (λ x. not (x == l.number)) l.other-iterator) ≡ kept_destinations l.initial.self l.number

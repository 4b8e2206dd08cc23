use Rattle.std.proofs.Common.{◌≡◌, take}
use Rattle.hub_core.proofs.roster.to_deque.Given as goal

-- the ends so far are in the list
abbrev pub invariant-loop-end : goal.invariant-loop-end
invariant-loop-end l = l.left.items ≡ take l.end-index l.ends

use Rattle.std.proofs.Common.{◌≡◌, drop, ◌&&◌}
use Rattle.hub_core.proofs.Words.{list_all, is_distinct, may_leave_agent, seen}
use Rattle.hub_core.proofs.machine.Core.are_distinct_and_may_travel.Given as goal

-- the answer is that of the ports that are left
abbrev pub invariant-loop-i : goal.invariant-loop-i
invariant-loop-i l =
    (is_distinct (drop l.i l.ports) && list_all (may_leave_agent (seen l.self) l.agent l.sender) (drop l.i l.ports)) ≡ (is_distinct l.ports && list_all (may_leave_agent (seen l.self) l.agent l.sender) l.ports)

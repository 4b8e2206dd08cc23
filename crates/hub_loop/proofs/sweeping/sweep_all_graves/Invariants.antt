use Rattle.std.proofs.Common.{◌≡◌, ◌++◌}
use Rattle.std.specs.VecDeque.{deque_len}
use Rattle.hub_loop.specs.Ending.{grave_ends, swept_ends}
use Rattle.hub_loop.proofs.sweeping.sweep_all_graves.Given as goal

abbrev pub invariant-loop-swept : goal.invariant-loop-swept
invariant-loop-swept g l = swept_ends l.swept.items ++ grave_ends l.graves.items ≡ swept_ends l.fn.swept.items ++ grave_ends l.fn.graves.items

abbrev pub decreases-loop-swept : goal.decreases-loop-swept
decreases-loop-swept g l = deque_len l.graves

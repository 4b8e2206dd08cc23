use Rattle.std.specs.VecDeque.{deque_len}
use Rattle.hub_loop.specs.Ending.{grave_ends}
use Rattle.hub_loop.specs.Noticing.{NamedBehind}
use Rattle.hub_loop.proofs.sweeping.close_ports_found_in_envelopes.Given as goal

abbrev pub invariant-loop-graves : goal.invariant-loop-graves
invariant-loop-graves g l = NamedBehind (grave_ends l.fn.graves.items) (grave_ends l.graves.items) l.fn.noticed.items l.noticed.items

abbrev pub decreases-loop-graves : goal.decreases-loop-graves
decreases-loop-graves g l = deque_len l.found

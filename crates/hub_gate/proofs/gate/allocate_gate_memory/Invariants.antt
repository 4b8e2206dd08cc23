use Rattle.std.proofs.Common.{◌≡◌, length}
use Rattle.std.specs.Arc.{arc_value}
use Rattle.hub_gate.specs.GateSeats.{AllSame}
use Rattle.hub_gate.proofs.gate.allocate_gate_memory.Given as goal

abbrev pub invariant-loop : goal.invariant-loop
invariant-loop g l =
    (length l.shares.items ≡ l.counter)
    × AllSame arc_value (arc_value l.table) l.shares.items

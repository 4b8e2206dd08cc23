use Rattle.std.proofs.Common.{◌≡◌, ◌+◌, List, ◌++◌, map, length, replicate, reverse, Some, None}
use Rattle.hub_gate.specs.Taking.{numbered}
use Rattle.hub_gate.proofs.gate.fill_slots_with_rights.Given as goal

abbrev pub invariant-loop-line : goal.invariant-loop-line
invariant-loop-line g l =
    (l.seat.table_id ≡ l.fn.seat.table_id)
    × (l.seat.id ≡ l.fn.seat.id)
    × (length l.rights.items + l.line ≡ length l.fn.rights.items)
    × ((done : List g.row.T.Denot) × (l.fn.rights.items ≡ done ++ reverse l.rights.items) × (length done ≡ l.line)
    × (l.seat.me ≡ (l.fn.seat.me.0, numbered l.line (replicate (length l.rights.items) None) ++ numbered 0 (map Some done))))

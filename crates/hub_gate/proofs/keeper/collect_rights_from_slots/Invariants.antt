use Rattle.std.proofs.Common.{◌≡◌, List, ◌++◌, map, length, Some, None, vec_capacity}
use Rattle.hub_gate.specs.Taking.{numbered, values_in}
use Rattle.hub_gate.proofs.keeper.collect_rights_from_slots.Given as goal

abbrev pub invariant-loop-line : goal.invariant-loop-line
invariant-loop-line g l =
    (l.seat.table_id ≡ l.fn.seat.table_id)
    × (vec_capacity l.rights ≡ vec_capacity l.fn.rights)
    × ((todo : List g.row.T.Denot) × (values_in l.fn.seat.me.1 ≡ l.rights.items ++ todo) × (length l.rights.items ≡ l.line)
    × (l.seat.me ≡ (l.fn.seat.me.0, numbered l.line (map Some todo) ++ numbered 0 (map (λ _. None) l.rights.items))))

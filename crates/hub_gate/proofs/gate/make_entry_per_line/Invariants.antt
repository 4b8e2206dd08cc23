use Rattle.std.proofs.Common.{◌≡◌, ◌+◌, [], length, vec_capacity}
use Rattle.std.specs.Arc.{arc_value}
use Rattle.hub_gate.specs.declared.view.View.TheVariants.{Keeping}
use Rattle.hub_gate.specs.GateRule.{keeper_at}
use Rattle.hub_gate.specs.GateSeats.{keeper_in, first_entries, AllSame}
use Rattle.hub_gate.proofs.gate.make_entry_per_line.Given as goal

abbrev pub invariant-loop-line : goal.invariant-loop-line
invariant-loop-line g l =
    let tags = (keeper_in l.fn.seat.me.0).tags in
    let rights = (keeper_in l.fn.seat.me.0).rights in
    (l.seat.table_id ≡ l.fn.seat.table_id)
    × (l.seat.me ≡ (Keeping (keeper_at tags rights l.line), []))
    × (length l.shares.items + l.line ≡ length l.fn.shares.items)
    × AllSame arc_value (arc_value l.table) l.shares.items
    × (l.entries.items ≡ first_entries l.fn.seat.table_id tags rights l.line)
    × (length l.entries.items ≡ l.line)
    × (vec_capacity l.entries ≡ vec_capacity l.fn.entries)

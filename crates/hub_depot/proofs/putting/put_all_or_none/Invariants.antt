use Rattle.std.proofs.Common.{◌≡◌, ◌++◌}
use Rattle.std.specs.Vec.Iter.{into_iter_items}
use Rattle.hub_depot.proofs.ManyPut.{IsPut}
use Rattle.hub_depot.proofs.putting.put_all_or_none.Given as goal

abbrev pub invariant-loop-value : goal.invariant-loop-value
invariant-loop-value g l =
    (goal.iterator-loop-value g).can_next l.value-iterator
    × (goal.iterator-loop-value g).is_finite l.value-iterator
    × (l.fn.values.items ≡ l.yielded ++ into_iter_items l.value-iterator)
    × IsPut g.V.Named.name (g.L.Lends.shown l.initial.lender) (g.L.Lends.shown l.lender) l.yielded l.names.items

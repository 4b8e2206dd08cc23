use Rattle.std.proofs.Common.{◌≡◌, ◌+◌, length, vec_len}
use Rattle.std.specs.Vec.Iter.{into_iter_items, into_iter_len}
use Rattle.hub_run.specs.Giving.{HaveNothing}
use Rattle.hub_run.proofs.Seating.{AreOpened}
use Rattle.hub_run.proofs.making.Made.make_empty_agents.Given as goal

abbrev pub invariant-loop-seat : goal.invariant-loop-seat
invariant-loop-seat g l = record {
  count : vec_len l.agents + into_iter_len l.seat-iterator ≡ length l.declared;
  nothing : HaveNothing l.agents.items;
  opened : AreOpened l.agents.items (into_iter_items l.seat-iterator) (into_iter_items l.initial.seat-iterator);
}

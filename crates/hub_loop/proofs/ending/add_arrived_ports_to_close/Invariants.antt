use Rattle.std.proofs.Common.{◌≡◌, ◌+◌, ◌++◌, map, vec_len, vec_capacity}
use Rattle.std.specs.Vec.Iter.{into_iter_items, into_iter_len}
use Rattle.std.specs.VecDeque.{deque_len}
use Rattle.hub_loop.specs.declared.held.Held.TheVariants.{Port}
use Rattle.hub_loop.proofs.ending.add_arrived_ports_to_close.Given as goal

abbrev pub invariant-loop-arrived : goal.invariant-loop-arrived
invariant-loop-arrived l = record {
  items : l.opened.items ++ map Port (into_iter_items l.arrived-iterator) ≡ l.fn.opened.items ++ map Port l.fn.found.items;
  len : vec_len l.opened + into_iter_len l.arrived-iterator ≡ vec_len l.fn.opened + deque_len l.fn.found;
  capacity : vec_capacity l.opened ≡ vec_capacity l.fn.opened;
}

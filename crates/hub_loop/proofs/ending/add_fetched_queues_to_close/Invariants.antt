use Rattle.std.proofs.Common.{◌≡◌, ◌+◌, ◌++◌, map, vec_len, vec_capacity}
use Rattle.std.specs.Vec.Iter.{into_iter_items, into_iter_len}
use Rattle.hub_loop.specs.Holding.{held_queue}
use Rattle.hub_loop.proofs.ending.add_fetched_queues_to_close.Given as goal

abbrev pub invariant-loop-queue : goal.invariant-loop-queue
invariant-loop-queue l = record {
  items : l.opened.items ++ map held_queue (into_iter_items l.queue-iterator) ≡ l.fn.opened.items ++ map held_queue l.fn.queues.items;
  len : vec_len l.opened + into_iter_len l.queue-iterator ≡ vec_len l.fn.opened + vec_len l.fn.queues;
  capacity : vec_capacity l.opened ≡ vec_capacity l.fn.opened;
}

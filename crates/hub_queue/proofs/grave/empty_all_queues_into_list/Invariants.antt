use Rattle.std.proofs.Common.{◌≡◌, deque_len}
use Rattle.hub_queue.proofs.Chains.{DoneSoFar}
use Rattle.hub_queue.proofs.grave.empty_all_queues_into_list.Given as goal

abbrev pub invariant-loop-index : goal.invariant-loop-index
invariant-loop-index g l = record {
  so_far : DoneSoFar l.fn.retired.items l.retired.items l.index l.fn.envelopes.items l.envelopes.items;
  count : deque_len l.retired ≡ deque_len l.fn.retired;
}

use Rattle.std.proofs.Common.{◌≡◌, ◌+◌, ◌≤◌, ◌++◌, length}
use Rattle.hub_core.proofs.Words.{vec_len, vec_capacity, joined}
use Rattle.hub_core.proofs.queues.Queues.take_all.Given as goal

-- the envelopes that moved, followed by those of this queue and of the others, are all; and there is room for those
abbrev pub invariant-loop-envelope : goal.invariant-loop-envelope
invariant-loop-envelope l = record {
  all : l.envelopes.items ++ (l.queue ++ joined l.self-inside.queues.items) ≡ joined l.fn.self;
  room : vec_len l.envelopes + length (l.queue ++ joined l.self-inside.queues.items) ≤ vec_capacity l.envelopes;
}

abbrev pub decreases-loop-envelope : goal.decreases-loop-envelope
decreases-loop-envelope l = length l.queue

abbrev pub invariant-loop-queue : goal.invariant-loop-queue
invariant-loop-queue l = record {
  all : l.envelopes.items ++ joined l.self-inside.queues.items ≡ joined l.fn.self;
  room : vec_len l.envelopes + length (joined l.self-inside.queues.items) ≤ vec_capacity l.envelopes;
}

abbrev pub decreases-loop-queue : goal.decreases-loop-queue
decreases-loop-queue l = length l.self-inside.queues.items

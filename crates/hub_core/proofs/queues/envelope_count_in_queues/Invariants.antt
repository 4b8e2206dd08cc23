use Rattle.std.proofs.Common.{◌≡◌, length, take}
use Rattle.hub_core.proofs.Words.{joined}
use Rattle.hub_core.proofs.queues.envelope_count_in_queues.Given as goal

-- the queues so far are counted
abbrev pub invariant-loop-queue : goal.invariant-loop-queue
invariant-loop-queue l = l.count ≡ length (joined (take l.queue-index l.queues))

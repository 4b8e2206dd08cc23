use Rattle.std.proofs.Common.{◌≡◌}
use Rattle.hub_queue.proofs.mailbox.turn_onwards_into_posters.Given as goal

abbrev pub invariant-loop-onward : goal.invariant-loop-onward
invariant-loop-onward l = l.posters.items ≡ l.yielded

use Rattle.std.proofs.Common.{◌≡◌}
use Rattle.hub_loop.proofs.event_loop.take_or_fetch_queue.Given as goal

abbrev pub invariant-loop-place : goal.invariant-loop-place
invariant-loop-place g l = l.fetched.items ≡ l.fn.fetched.items

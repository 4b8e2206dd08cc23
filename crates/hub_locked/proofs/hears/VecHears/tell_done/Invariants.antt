use Rattle.std.proofs.Common.{◌≡◌}
use Rattle.hub_locked.proofs.hears.VecHears.tell_done.Given as goal

abbrev pub invariant-loop : goal.invariant-loop
invariant-loop g l = l.self.items ≡ l.fn.self.items

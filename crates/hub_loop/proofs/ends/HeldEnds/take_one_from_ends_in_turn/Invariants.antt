use Rattle.std.proofs.Common.{◌≡◌, ◌≤◌, ◌-◌}
use Rattle.hub_loop.specs.Serving.{AreEachServed}
use Rattle.hub_loop.specs.declared.serving.Served.TheVariants.{Nothing}
use Rattle.hub_loop.proofs.ends.HeldEnds.take_one_from_ends_in_turn.Given as goal

abbrev pub invariant-parts : goal.invariant-parts
invariant-parts g l = record {
  low : l.low ≤ l.from;
  high : l.from ≤ l.high;
  served : AreEachServed l.low l.from l.fn.self l.self l.fn.listener l.listener l.fn.steps l.steps l.was (Nothing l.busy);
  next : l.self.next ≡ l.fn.self.next;
  capacity : l.self.held.capacity ≡ l.fn.self.held.capacity;
}

abbrev pub decreases-parts : goal.decreases-parts
decreases-parts g l = l.high - l.from

use Rattle.std.proofs.Common.{◌≡◌, ◌≤◌, ◌-◌}
use Rattle.hub_loop.specs.Serving.{HasWalked}
use Rattle.hub_loop.specs.declared.serving.Served.TheVariants.{Nothing}
use Rattle.hub_loop.proofs.ends.HeldEnds.take_from_range.Given as goal

abbrev pub invariant-keys : goal.invariant-keys
invariant-keys g l = record {
  low : l.low ≤ l.from;
  high : l.from ≤ l.high;
  walked : HasWalked l.which l.low l.from l.fn.self l.self l.fn.steps l.steps l.was (Nothing l.busy);
  next : l.self.next ≡ l.fn.self.next;
  capacity : l.self.held.capacity ≡ l.fn.self.held.capacity;
}

abbrev pub decreases-keys : goal.decreases-keys
decreases-keys g l = l.high - l.from

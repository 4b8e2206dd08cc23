use Rattle.std.proofs.Common.{◌≡◌, ◌++◌}
use Rattle.std.specs.Vec.Iter.{into_iter_items}
use Rattle.hub_ports.specs.Closing.{AreDoomed}
use Rattle.hub_ports.proofs.closing.close_listed_ports.Given as goal

abbrev pub invariant-loop-port : goal.invariant-loop-port
invariant-loop-port g l = record {
  left : l.fn.ports.items ≡ l.yielded ++ into_iter_items l.port-iterator;
  closed : AreDoomed l.yielded l.closings;
}

use Rattle.std.specs.Prelude.{OnOk}
use Rattle.std.specs.Vec.Iter.{into_iter_items}
use Rattle.slab.specs.Slab.{Slab}
use Rattle.hub_loop.specs.declared.held.Held.{Held}
use Rattle.hub_agent.specs.Agents.{KeepsButEnds}
use Rattle.hub_agent.specs.Posting.{HoldsEach}
use Rattle.hub_agent.proofs.agent.Agent.add_ports_to_loop.Given as goal

abbrev pub invariant-loop-port : goal.invariant-loop-port
invariant-loop-port g l = record {
  same : KeepsButEnds l.fn.self l.self;
  held : OnOk l.held ((new : Slab Held) → HoldsEach (into_iter_items l.port-iterator) l.self.ends new → HoldsEach l.fn.ports.items l.fn.self.ends new);
}

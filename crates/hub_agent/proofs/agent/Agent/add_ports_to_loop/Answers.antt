use Rattle.std.proofs.Common.{rules}
use Rattle.std.specs.Vec.Iter.{into_iter_items}
use Rattle.hub_agent.proofs.Sending.{all_held, one_more}
use Rattle.hub_agent.proofs.agent.Agent.add_ports_to_loop.Goals as goal

pub loop-port-preserved : goal.loop-port-preserved
loop-port-preserved g c = record {
  same = search rules;
  held = one_more c.hold_end_or_line.result c.loop-port.held _ c.args.self.now.ends c.loop-port.self.ends c.hold_end_or_line.new.self.ends c.in-Some.port _ _ c.args.ports.items c.and-held.ensures c.in-Some.ensures.steps.0 c.hold_end_or_line.ensures.held c.loop-port.invariant.held;
}

pub returns-clause-held : goal.returns-clause-held
returns-clause-held g c =
    all_held c.loop-port.held c.args.self.now.ends c.loop-port.self.ends (into_iter_items c.loop-port.port-iterator) c.args.ports.items (search rules) c.loop-port.invariant.held

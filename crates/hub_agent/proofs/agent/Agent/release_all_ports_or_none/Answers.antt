use Rattle.std.proofs.Common.{ap, arith, rules}
use Rattle.std.proofs.lemmas.Grind.{common_steps}
use Rattle.hub_agent.specs.Agents.{AgentState}
use Rattle.hub_agent.proofs.Sending.{both_of, lacks_none, lacks_other, takes_one}
use Rattle.hub_agent.proofs.agent.Agent.release_all_ports_or_none.Goals as goal

pub returns-in-Err : goal.returns-in-Err
returns-in-Err g c =
    let (held, again) = both_of c.add_ports_to_loop-in-Err.result c.hold_end_or_line-again.result c.and.result c.in_ok-and-in-Err.field-0 c.and.ensures c.in_ok-and-in-Err.was c.add_ports_to_loop-in-Err.ensures.held c.hold_end_or_line-again.ensures.held in record {
      same = search rules;
      ports = tt;
      released = tt;
      again = lacks_other c.args.ends.now c.loop-end.end-index _ c.loop-end.ports.items c.args.self.now.ends c.self-in-loop-end.inside.event_loop.holding.ends.held c.loop-end.self.ends c.release_end.new.self.holding.ends.held c.hold_end_or_line-again.new.self.ends c.add_ports_to_loop-in-Err.new.self.ends
          c.in-Some.held c.in-Err.held c.loop-end-test.true c.loop-end.invariant.ports c.loop-end.invariant.taken (ap (λ (a : AgentState). a.ends) c.self-in-loop-end.view_is) c.in-Some.ensures.given.0 c.in-Some.ensures.given.1 c.in-Err.ensures.err.0 c.in-Err.ensures.err.1 again held;
    }

pub returns-in_default-clause-again : goal.returns-in_default-clause-again
returns-in_default-clause-again g c =
    lacks_none c.args.ends.now c.loop-end.end-index _ c.loop-end.ports.items c.args.self.now.ends c.self-in-loop-end.inside.event_loop.holding.ends.held c.loop-end.self.ends c.release_end.new.self.holding.ends.held c.add_ports_to_loop.new.self.ends
    c.loop-end-test.true c.loop-end.invariant.ports c.loop-end.invariant.taken (ap (λ (a : AgentState). a.ends) c.self-in-loop-end.view_is) c.in_default.ensures.missing c.in_default.ensures.none c.in_ok-add_ports_to_loop.ensures.held

pub loop-end-preserved : goal.loop-end-preserved
loop-end-preserved g c = record {
  room = search rules;
  ports = grind (arith, common_steps);
  same = search rules;
  taken = takes_one c.loop-end.ports.items c.push_reserved.new.self.items c.args.self.now.ends c.self-in-loop-end.inside.event_loop.holding.ends.held c.loop-end.self.ends c.release_end.new.self.holding.ends.held c.in-Some.held c.in-Ok.port
      c.loop-end.invariant.taken (ap (λ (a : AgentState). a.ends) c.self-in-loop-end.view_is) c.in-Ok.ensures.ok c.in-Some.ensures.given.1 c.push_reserved.ensures.items;
}

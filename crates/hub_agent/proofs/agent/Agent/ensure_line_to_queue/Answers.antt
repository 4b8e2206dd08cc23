use Rattle.std.proofs.Common.{ap, subst}
use Rattle.slab.specs.Slab.{Slab}
use Rattle.hub_loop.specs.Looking.{HoldsNoLine}
use Rattle.hub_loop.specs.declared.held.Held.{Held}
use Rattle.hub_agent.specs.Agents.{AgentState}
use Rattle.hub_agent.proofs.Sending.{none_had}
use Rattle.hub_agent.proofs.agent.Agent.ensure_line_to_queue.Goals as goal

pub returns-clause-none : goal.returns-clause-none
returns-clause-none g c =
    none_had c.hold_line_lent_by_directory.result c.args.self.now.ends c.hold_line_lent_by_directory.new.self.ends c.args.queue c.hold_line_lent_by_directory.ensures.none
    (subst (λ (s : Slab Held). HoldsNoLine s c.args.queue) (ap (λ (a : AgentState). a.ends) c.self.view_is) (c.has_line_posting_to_end.ensures.none c.if-has_line_posting_to_end.false))

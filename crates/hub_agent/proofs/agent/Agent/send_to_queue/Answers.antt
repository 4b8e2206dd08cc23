use Rattle.std.proofs.Common.{ap, rules}
use Rattle.hub_loop.specs.Looking.{HoldsNoLine}
use Rattle.hub_agent.specs.Agents.{AgentState}
use Rattle.hub_agent.specs.Posting.{HasLine}
use Rattle.hub_agent.proofs.Sending.{no_line, sent_over}
use Rattle.hub_agent.proofs.agent.Agent.send_to_queue.Goals as goal

pub returns-then-not-branch-clause-sent : goal.returns-then-not-branch-clause-sent
returns-then-not-branch-clause-sent g c =
    let line : HasLine c.args.queue c.args.self.now.ends c.ensure_line_to_queue.new.self.ends = search rules in
    let none : HoldsNoLine c.ensure_line_to_queue.new.self.ends c.args.queue = c.in_ok-ensure_line_to_queue.ensures.none (search rules) in
    no_line c.args.queue c.args.transfer.now c.args.body.now c.args.self.now.ends c.ensure_line_to_queue.new.self.ends c.args.self.now.notes c.ensure_line_to_queue.new.self.notes line none (ap (λ (a : AgentState). a.notes) c.ensure_line_to_queue.ensures.same)

pub returns-clause-sent : goal.returns-clause-sent
returns-clause-sent g c =
    let line : HasLine c.args.queue c.args.self.now.ends c.ensure_line_to_queue.new.self.ends = search rules in
    sent_over c.post.result c.args.queue c.args.transfer.now c.args.body.now c.args.self.now.ends c.ensure_line_to_queue.new.self.ends c.post.new.self.ends c.args.self.now.notes c.ensure_line_to_queue.new.self.notes c.post.new.self.notes
    line (ap (λ (a : AgentState). a.notes) c.ensure_line_to_queue.ensures.same) c.post.ensures.posted

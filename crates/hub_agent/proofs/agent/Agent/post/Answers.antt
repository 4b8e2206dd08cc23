use Rattle.std.proofs.Common.{◌≡◌, ◌∙◌, ap, rules, subst, sym, Vec}
use Rattle.std.specs.declared.alloc.Global.{Global}
use Rattle.hub_logging.specs.Notes.{Notes}
use Rattle.hub_queue.specs.Putting.{lent_list}
use Rattle.hub_ports.specs.Refusing.{answer_with, carried_body}
use Rattle.hub_ports.specs.Seats.{PortSeat, ends_of}
use Rattle.hub_agent.specs.Agents.{AgentState}
use Rattle.hub_agent.specs.Posting.{LacksOne, TakesOut}
use Rattle.hub_agent.proofs.Sending.{has_lacked, has_settled}
use Rattle.hub_agent.proofs.agent.Agent.post.Goals as goal

pub returns-in_default-clause-posted : goal.returns-in_default-clause-posted
returns-in_default-clause-posted g c =
    let lacks : LacksOne c.args.transfer.now c.args.self.now.ends c.take_ports_from_loop.new.self.ends = search rules in
    has_lacked c.args.way c.args.transfer.now c.args.body.now c.args.self.now.ends c.take_ports_from_loop.new.self.ends c.args.self.now.notes c.take_ports_from_loop.new.self.notes (ap (λ (a : AgentState). a.notes) c.take_ports_from_loop.ensures.same) lacks

pub returns-clause-posted : goal.returns-clause-posted
returns-clause-posted g c =
    let ends = c.args.transfer.now in
    let out = c.take_ports_from_loop.new.self in
    let sent = c.new-parcel.result in
    let ports : sent.ports ≡ c.in-Some.ports = c.new-parcel.ensures.1 in
    let are : ends_of c.in-Some.ports.items ≡ ends = search rules in
    let taken : TakesOut c.in-Some.ports.items c.args.self.now.ends out.ends = search rules in
    let notes = ap (λ (a : AgentState). a.notes) c.self.view_is ∙ ap (λ (a : AgentState). a.notes) c.take_ports_from_loop.ensures.same in
    let parcel = c.post_over_port_or_line-answer.new.parcel in
    let answer = answer_with c.post_over_port_or_line-answer.result parcel c.post_over_port_or_line-answer.new.closings in
    has_settled c.log_post_result-logged.result c.args.way c.as_slice-sent.result.now ends c.agent_id-agent.result (carried_body sent) c.args.body.now sent.ports parcel.ports.items answer c.args.self.now.ends out.ends c.self.inside.event_loop.holding.ends.held c.post_over_port_or_line-answer.new.event_loop.holding.ends.held c.add_ports_to_loop.new.self.ends
    c.args.self.now.notes c.self.inside.scribe c.log_post_result-logged.new.scribe c.add_ports_to_loop.new.self.notes
    (ap (λ (v : Vec PortSeat Global). ends_of v.items) ports ∙ are) c.as_slice-sent.ensures.listed (c.agent_id-agent.ensures ∙ ap (λ (n : Notes). n.log.0) notes) (ap lent_list c.new-parcel.ensures.0 ∙ search rules)
    (subst (λ (v : Vec PortSeat Global). TakesOut v.items c.args.self.now.ends out.ends) (sym ports) taken) (ap (λ (a : AgentState). a.ends) c.self.view_is) c.post_over_port_or_line-answer.ensures.sent
    c.post_over_port_or_line-answer.ensures.back c.in_ok-add_ports_to_loop.ensures.held notes (c.log_post_result-logged.ensures parcel) (ap (λ (a : AgentState). a.notes) c.add_ports_to_loop.ensures.same)

use Rattle.hub_agent.specs.Given.{members_given, ports_given, queue_given}
use Rattle.hub_run.proofs.Seating.{seated_given}
use Rattle.hub_run.proofs.Gives.{are_given}
use Rattle.hub_run.proofs.making.Made.of_script.Goals as goal

pub returns-clause-given : goal.returns-clause-given
returns-clause-given g c =
    are_given c.args.script.now c.in_ok-made.made.agents.items c.add_queues.new.self.agents.items c.add_message_channels.new.self.agents.items c.add_broadcast_members.new.self.agents.items
    c.in_ok-made.ensures.nothing c.in_ok-add_queues.ensures.given c.in_ok-add_message_channels.ensures.given c.in_ok-add_broadcast_members.ensures.given

pub returns-clause-seated : goal.returns-clause-seated
returns-clause-seated g c =
    let none = c.in_ok-made.made.agents.items in
    let queues = c.add_queues.new.self.agents.items in
    let ports = c.add_message_channels.new.self.agents.items in
    let all = c.add_broadcast_members.new.self.agents.items in
    let script = c.args.script.now in
    seated_given (members_given script) ports all c.in_ok-add_broadcast_members.ensures.given
    (seated_given (ports_given script) queues ports c.in_ok-add_message_channels.ensures.given (seated_given queue_given none queues c.in_ok-add_queues.ensures.given c.in_ok-made.ensures.seated))

use Rattle.hub_run.proofs.Gives.{gives_one}
use Rattle.hub_run.proofs.making.Made.give_end_before_run.Goals as goal

pub returns-in-Some-clause-given : goal.returns-in-Some-clause-given
returns-in-Some-clause-given g c =
    let (there, here) = c.in-Some.ensures.item.3 in
    gives_one c.give_end_before_run.result c.args.self.now.agents.items c.args.number c.from.result c.args.held c.in-Some.agent.now c.give_end_before_run.new.self c.from.ensures there here c.give_end_before_run.ensures.same c.give_end_before_run.ensures.held

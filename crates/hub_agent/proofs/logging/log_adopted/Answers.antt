use Rattle.hub_agent.proofs.Writing.{wrote_some}
use Rattle.hub_agent.proofs.logging.log_adopted.Goals as goal

pub returns : goal.returns
returns c = wrote_some c.log_adoption.result c.args.end c.in-Some.epoch c.args.scribe.now c.log_adoption.new.self c.log_adoption.ensures.ok

use Rattle.std.proofs.Common.{refl}
use Rattle.hub_agent.proofs.Writing.{wrote}
use Rattle.hub_agent.proofs.logging.log_put.Goals as goal

pub returns : goal.returns
returns c = rw c.in_ok-content.ensures.copy at (wrote c.log_posted.result c.args.scribe.now _ c.args.scribe.now _ c.log_posted.ensures.ok refl)

use Rattle.std.proofs.Common.{refl}
use Rattle.hub_agent.proofs.Writing.{wrote}
use Rattle.hub_agent.proofs.logging.log_closing_notice.Goals as goal

pub returns : goal.returns
returns c = wrote c.log_posted.result c.args.scribe.now _ _ _ c.log_posted.ensures.ok refl

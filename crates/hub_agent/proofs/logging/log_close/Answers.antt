use Rattle.std.proofs.Common.{refl}
use Rattle.hub_agent.proofs.Writing.{wrote}
use Rattle.hub_agent.proofs.logging.log_close.Goals as goal

pub returns : goal.returns
returns c = wrote c.log_closing.result c.args.scribe.now _ _ _ c.log_closing.ensures.ok refl

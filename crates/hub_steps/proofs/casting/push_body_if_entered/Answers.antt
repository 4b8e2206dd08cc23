use Rattle.hub_steps.proofs.Computing.{pushes_nothing}
use Rattle.hub_steps.proofs.casting.push_body_if_entered.Goals as goal

pub returns-in_default : goal.returns-in_default
returns-in_default c = pushes_nothing c.args.core.now c.args.memory_refused c.args.body.now c.args.sender c.args.entered c.in_default.not-In

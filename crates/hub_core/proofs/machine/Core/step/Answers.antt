use Rattle.hub_core.proofs.Took.{step_told}
use Rattle.hub_core.proofs.machine.Core.step.Goals as goal

pub returns : goal.returns
returns c = step_told c.args.step _ _ c.act.result c.act.ensures

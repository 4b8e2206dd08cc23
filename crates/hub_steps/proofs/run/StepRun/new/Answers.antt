use Rattle.hub_steps.proofs.Running.{starts}
use Rattle.hub_steps.proofs.run.StepRun.new.Goals as goal

pub returns : goal.returns
returns c = starts c.new.result c.new-2.result c.new-4.result.items c.new-4.ensures.items c.new-2.ensures c.new.ensures

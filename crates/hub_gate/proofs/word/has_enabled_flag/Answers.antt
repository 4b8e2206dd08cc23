use Rattle.std.proofs.Common.{ap, ◌∙◌}
use Rattle.hub_core.specs.GateMachine as machine
use Rattle.hub_gate.specs.declared.word.Flag.TheVariants.{Enabled}
use Rattle.hub_gate.proofs.Words.{reads_flag}
use Rattle.hub_gate.proofs.word.has_enabled_flag.Goals as goal

pub returns-clause-part : goal.returns-clause-part
returns-clause-part c = λ e m x k is. c.has_flag.ensures ∙ ap machine.enabled_in is ∙ reads_flag Enabled e m x k

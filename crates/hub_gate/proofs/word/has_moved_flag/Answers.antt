use Rattle.std.proofs.Common.{ap, ◌∙◌}
use Rattle.hub_core.specs.GateMachine as machine
use Rattle.hub_gate.specs.declared.word.Flag.TheVariants.{Moved}
use Rattle.hub_gate.proofs.Words.{reads_flag}
use Rattle.hub_gate.proofs.word.has_moved_flag.Goals as goal

pub returns-clause-part : goal.returns-clause-part
returns-clause-part c = λ e m x k is. c.has_flag.ensures ∙ ap machine.moved_in is ∙ reads_flag Moved e m x k

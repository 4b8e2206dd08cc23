use Rattle.std.proofs.Common.{ap, ◌∙◌}
use Rattle.hub_core.specs.GateMachine as machine
use Rattle.hub_gate.proofs.Words.{reads_count}
use Rattle.hub_gate.proofs.word.inside_line_count.Goals as goal

pub returns-clause-part : goal.returns-clause-part
returns-clause-part c = λ e m x k is. ap machine.count_in is ∙ reads_count e m x k

-- The laws of the queue machine.
use Rattle.hub_core.proofs.Queueing.{prove_queue_laws}
use Rattle.hub_core.proofs.laws.prove_queue_laws.Goals as goal

pub returns : goal.returns
returns c = prove_queue_laws

-- The laws of the gate machine.
use Rattle.hub_core.proofs.Gating.{prove_gate_machine_laws}
use Rattle.hub_core.proofs.laws.prove_gate_machine_laws.Goals as goal

pub returns : goal.returns
returns g c = prove_gate_machine_laws

use Rattle.hub_steps.proofs.Computing.{PortsClosed}
use Rattle.hub_steps.proofs.closing.close_ports_of_envelopes.Given as goal

abbrev pub invariant-loop-envelope : goal.invariant-loop-envelope
invariant-loop-envelope l = PortsClosed l.fn.core l.core l.envelope-index l.memory_refused l.envelopes

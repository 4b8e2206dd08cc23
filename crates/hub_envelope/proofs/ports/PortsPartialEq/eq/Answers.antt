use Rattle.hub_envelope.proofs.Equalities.{ends-Decides}
use Rattle.hub_envelope.proofs.ports.PortsPartialEq.eq.Goals as goal

pub returns-clause-same : goal.returns-clause-same
returns-clause-same c = rw (← c.as_slice.ensures.listed, ← c.as_slice-2.ensures.listed) (ends-Decides _ _ _ c.eq.ensures)

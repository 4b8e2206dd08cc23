use Rattle.hub_trace.proofs.OneListing.{deliveries_are_one}
use Rattle.hub_trace.proofs.delivered.prove_deliveries_deterministic.Goals as goal

pub returns : goal.returns
returns c = deliveries_are_one

use Rattle.hub_queue.specs.Sweeping.{IsSweptSoFar}
use Rattle.hub_queue.proofs.grave.Grave.sweep_until_empty.Given as goal

abbrev pub invariant-loop : goal.invariant-loop
invariant-loop g l = IsSweptSoFar l.fn.self l.grave

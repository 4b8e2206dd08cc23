use Rattle.hub_loop.specs.Ending.{closing_ends}
use Rattle.hub_loop.specs.Noticing.{NamedBehind}
use Rattle.hub_loop.proofs.sweeping.Shutdown.finish.Given as goal

abbrev pub invariant-loop : goal.invariant-loop
invariant-loop g l =
    (goal.iterator-loop g).can_next l.iterator' × (goal.iterator-loop g).is_finite l.iterator'
    × NamedBehind (closing_ends l.fn.self) (closing_ends l.self) l.fn.self.noticed l.self.noticed

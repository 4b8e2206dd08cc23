use Rattle.std.specs.Prelude.{List}
use Rattle.hub_loop.specs.Looping.{HasTurned}
use Rattle.hub_loop.specs.declared.handler.Turn.{Turn}
use Rattle.hub_loop.proofs.event_loop.EventLoop.run_counting_pops.Given as goal

abbrev pub invariant-loop : goal.invariant-loop
invariant-loop g l =
    (goal.iterator-loop g).can_next l.iterator' × (goal.iterator-loop g).is_finite l.iterator'
    × ((turns : List Turn) × HasTurned g.H.Handler.leaves g.H.Handler.refuses turns l.fn.self l.self)

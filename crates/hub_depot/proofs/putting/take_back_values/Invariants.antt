use Rattle.std.proofs.Common.{◌≡◌}
use Rattle.std.specs.Option.{option_map}
use Rattle.hub_depot.specs.Putting.{without_all}
use Rattle.hub_depot.proofs.putting.take_back_values.Given as goal

-- what is shown once the names that are left are taken back too
abbrev pub invariant-loop-name : goal.invariant-loop-name
invariant-loop-name g l =
    option_map (λ kept. without_all kept l.names.items) (g.L.Lends.shown l.lender) ≡ option_map (λ kept. without_all kept l.fn.names.items) (g.L.Lends.shown l.initial.lender)

abbrev pub decreases-loop-name : goal.decreases-loop-name
decreases-loop-name g l = goal.left-loop-name g l

use Rattle.std.proofs.Common.{◌≡◌, ◌++◌, map, drop}
use Rattle.hub_trace.specs.Accepted.{puts}
use Rattle.hub_trace.specs.Views.{delivery_of}
use Rattle.hub_trace.proofs.accepted.add_accepted_of_log.Given as goal

abbrev pub invariant-loop-entry : goal.invariant-loop-entry
invariant-loop-entry l =
    map delivery_of l.found.items ++ puts (drop l.entry-index l.entries) ≡ map delivery_of l.fn.found.items ++ puts l.entries

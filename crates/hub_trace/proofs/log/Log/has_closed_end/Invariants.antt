use Rattle.std.proofs.Common.{◌≡◌, drop}
use Rattle.hub_trace.specs.Closings.{is_closed_by}
use Rattle.hub_trace.proofs.log.Log.has_closed_end.Given as goal

-- no entry before this one closes the end
abbrev pub invariant-loop-entry : goal.invariant-loop-entry
invariant-loop-entry l = is_closed_by (drop l.entry-index l.entry-items) l.end.0 ≡ is_closed_by l.entry-items l.end.0

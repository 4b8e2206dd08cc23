use Rattle.std.proofs.Common.{take}
use Rattle.hub_agent.specs.Entries.{WritesEntries, cast_entries}
use Rattle.hub_agent.proofs.logging.log_accepted_posts_of_cast.Given as goal

abbrev pub invariant-loop-outcome : goal.invariant-loop-outcome
invariant-loop-outcome l = WritesEntries (cast_entries l.body (take l.outcome-index l.outcomes)) l.fn.scribe l.scribe

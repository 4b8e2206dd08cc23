use Rattle.std.proofs.Common.{take}
use Rattle.hub_agent.specs.Entries.{WritesEntries, doomed_entries}
use Rattle.hub_agent.proofs.logging.log_closed_ports.Given as goal

abbrev pub invariant-loop-closing : goal.invariant-loop-closing
invariant-loop-closing l = WritesEntries (doomed_entries (take l.closing-index l.closings)) l.fn.scribe l.scribe

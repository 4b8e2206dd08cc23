use Rattle.std.proofs.Common.{◌≡◌, ◌++◌, map, drop}
use Rattle.hub_trace.specs.Accepted.{all_puts}
use Rattle.hub_trace.specs.Views.{delivery_of}
use Rattle.hub_trace.proofs.accepted.accepted_envelopes_of_logs.Given as goal

abbrev pub invariant-loop-log : goal.invariant-loop-log
invariant-loop-log l = map delivery_of l.found.items ++ all_puts (drop l.log-index l.logs) ≡ all_puts l.logs

use Rattle.std.proofs.Common.{◌≡◌, ◌++◌, ℕ, drop}
use Rattle.std.specs.List.{All}
use Rattle.hub_trace.specs.Got.{all_end_events}
use Rattle.hub_trace.specs.Views.{IsOwn, end_events_in}
use Rattle.hub_trace.proofs.received.happenings_of_all_logs.Given as goal

abbrev pub invariant-loop-log : goal.invariant-loop-log
invariant-loop-log l = record {
  own : All IsOwn l.happenings.items;
  told : (end : ℕ) → end_events_in l.happenings.items end ++ all_end_events (drop l.log-index l.logs) end ≡ all_end_events l.logs end;
}

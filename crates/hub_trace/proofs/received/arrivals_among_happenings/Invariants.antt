use Rattle.std.proofs.Common.{◌≡◌, ◌≤◌, ◌<◌, ◌++◌, ℕ, false, drop, length, get_or, IfSome}
use Rattle.hub_trace.specs.declared.received.Happening.{Happening}
use Rattle.hub_trace.specs.Got.{receipts}
use Rattle.hub_trace.specs.Views.{end_events_in, receipts_in, is_closed}
use Rattle.hub_trace.proofs.received.arrivals_among_happenings.Given as goal

abbrev pub invariant-loop-happening : goal.invariant-loop-happening
invariant-loop-happening l = record {
  passed : IfSome l.closed (λ x. (k : ℕ) (d : Happening) → l.happening-index ≤ k → k < length l.happenings → x ≤ (get_or l.happenings k d).end.0);
  told : (end : ℕ) → receipts_in l.arrivals.items end ++ receipts (is_closed l.closed end) (end_events_in (drop l.happening-index l.happenings) end)
      ≡ receipts false (end_events_in l.happenings end);
}

use Rattle.std.proofs.Common.{◌≡◌, ◌++◌, ℕ, drop, unwrap_or}
use Rattle.std.specs.BTreeMap.{get}
use Rattle.std.specs.List.{All}
use Rattle.std.specs.Ordering.{nat_cmp}
use Rattle.hub_trace.specs.Got.{end_events}
use Rattle.hub_trace.specs.Views.{IsOwn, end_events_in}
use Rattle.hub_trace.proofs.received.add_happenings_of_log.Given as goal

abbrev pub invariant-loop-entry : goal.invariant-loop-entry
invariant-loop-entry l = record {
  own : All IsOwn l.happenings.items;
  told : (end : ℕ) → end_events_in l.happenings.items end ++ end_events end (unwrap_or (get nat_cmp l.stretches end) 0) (drop l.entry-index l.entries)
      ≡ end_events_in l.fn.happenings.items end ++ end_events end 0 l.entries;
}

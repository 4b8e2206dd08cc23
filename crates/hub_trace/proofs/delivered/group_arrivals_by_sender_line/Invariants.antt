use Rattle.std.proofs.Common.{◌≡◌, ◌≢◌, ◌++◌, ℕ, [], length}
use Rattle.std.specs.List.{All, AllPairs}
use Rattle.hub_trace.specs.Deliveries.{IsEarlierLine, names_of, names_under}
use Rattle.hub_trace.specs.Views.{RisesByLine, got_among}
use Rattle.hub_trace.proofs.Listing.{IsLater}
use Rattle.hub_trace.proofs.delivered.group_arrivals_by_sender_line.Given as goal

abbrev pub invariant-loop-first : goal.invariant-loop-first
invariant-loop-first l = record {
  order : RisesByLine (λ a. a.posted) l.rest;
  rising : AllPairs IsEarlierLine l.lines.items;
  none_empty : All (λ d. d.names.items ≢ []) l.lines.items;
  later : All (λ d. All (IsLater d) l.rest) l.lines.items;
  told : (end line : ℕ) → names_under end line l.lines.items ++ names_of (got_among l.rest end line) ≡ names_of (got_among l.arrivals end line);
}

abbrev pub decreases-loop-first : goal.decreases-loop-first
decreases-loop-first l = length l.rest

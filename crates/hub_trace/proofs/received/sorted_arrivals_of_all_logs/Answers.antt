use Rattle.std.proofs.Common.{rules, false, ap, ◌∙◌}
use Rattle.hub_trace.specs.Got.{got, receipts}
use Rattle.hub_trace.specs.Views.{end_events_in}
use Rattle.hub_trace.proofs.Keys.{sort_says, line_key, pair_cmp, arrivals_sorted, arrivals_rise}
use Rattle.hub_trace.proofs.received.sorted_arrivals_of_all_logs.Goals as goal

pub returns-clause-lines : goal.returns-clause-lines
unfolding got
returns-clause-lines c = λ end line.
    let says = sort_says line_key pair_cmp c.in_ok-arrivals.arrivals.items c.sort_by_key.new.self.items c.in_ok-sort_by_key.ensures.sorted c.in_ok-sort_by_key.ensures.stable (λ a r f k. search rules) in
    arrivals_sorted _ _ says.0 says.1 end line _ (c.in_ok-arrivals.ensures end ∙ ap (λ l. receipts false (end_events_in l end)) c.deref.ensures.value ∙ ap (receipts false) (c.in_ok-happenings.ensures.ends end))

pub returns-clause-order : goal.returns-clause-order
returns-clause-order c =
    let says = sort_says line_key pair_cmp c.in_ok-arrivals.arrivals.items c.sort_by_key.new.self.items c.in_ok-sort_by_key.ensures.sorted c.in_ok-sort_by_key.ensures.stable (λ a r f k. search rules) in
    arrivals_rise _ says.0

use Rattle.std.proofs.Common.{rules}
use Rattle.hub_trace.specs.Accepted.{accepted}
use Rattle.hub_trace.proofs.Keys.{sort_says, put_key, put_cmp, accepted_sorted, accepted_rise}
use Rattle.hub_trace.proofs.accepted.sorted_accepted_envelopes_of_logs.Goals as goal

pub returns-clause-lines : goal.returns-clause-lines
unfolding accepted
returns-clause-lines c = λ end line.
    let says = sort_says put_key put_cmp c.in_ok-found.found.items c.sort_by_key.new.self.items c.in_ok-sort_by_key.ensures.sorted c.in_ok-sort_by_key.ensures.stable (λ a r f k. search rules) in
    accepted_sorted _ _ says.0 says.1 _ c.in_ok-found.ensures end line

pub returns-clause-order : goal.returns-clause-order
returns-clause-order c =
    let says = sort_says put_key put_cmp c.in_ok-found.found.items c.sort_by_key.new.self.items c.in_ok-sort_by_key.ensures.sorted c.in_ok-sort_by_key.ensures.stable (λ a r f k. search rules) in
    accepted_rise _ says.0

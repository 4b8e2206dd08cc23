use Rattle.std.proofs.Common.{rules}
use Rattle.std.proofs.lemmas.List.Sorted.{All-permutation}
use Rattle.hub_trace.specs.Views.{IsOwn}
use Rattle.hub_trace.proofs.Keys.{sort_says, happening_key, pair_cmp, happenings_sorted, happenings_rise}
use Rattle.hub_trace.proofs.received.sorted_happenings_of_all_logs.Goals as goal

pub returns-clause-ends : goal.returns-clause-ends
returns-clause-ends c = λ end.
    let says = sort_says happening_key pair_cmp c.in_ok-happenings.happenings.items c.sort_by_key.new.self.items c.in_ok-sort_by_key.ensures.sorted c.in_ok-sort_by_key.ensures.stable (λ a r f k. search rules) in
    happenings_sorted _ _ says.0 says.1 end _ (c.in_ok-happenings.ensures.ends end)

pub returns-clause-order : goal.returns-clause-order
returns-clause-order c =
    let says = sort_says happening_key pair_cmp c.in_ok-happenings.happenings.items c.sort_by_key.new.self.items c.in_ok-sort_by_key.ensures.sorted c.in_ok-sort_by_key.ensures.stable (λ a r f k. search rules) in
    happenings_rise _ says.0

pub returns-clause-own : goal.returns-clause-own
returns-clause-own c = All-permutation IsOwn _ _ c.in_ok-sort_by_key.ensures.permutation c.in_ok-happenings.ensures.own

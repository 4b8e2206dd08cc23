use Rattle.std.proofs.Common.{arith, ◌<◌, ◌≤◌, length, refl, sym, ap, ◌∙◌, subst}
use Rattle.std.specs.Prelude.{Err}
use Rattle.std.proofs.lemmas.Result.{err_from_is_err_and}
use Rattle.hub_queue.specs.Sweeping.{AreSwept}
use Rattle.hub_queue.proofs.Chains.{none_done, next_shut, done_more, stops, ends, last_shut}
use Rattle.hub_queue.proofs.grave.empty_all_queues_into_list.Goals as goal

pub loop-index-init : goal.loop-index-init
loop-index-init g c = record { so_far = none_done _ _; count = refl }

pub empty_queue_into_list-requires : goal.empty_queue_into_list-requires
empty_queue_into_list-requires g c =
    let low = subst (λ n. c.loop-index.index < n) c.loop-index.retired.ok.0 (c.in-Some.ensures.variant.0 refl) in
    next_shut _ _ _ _ _ c.loop-index.invariant.so_far _ low c.in-Some.ensures.value _ c.requires

pub loop-index-preserved : goal.loop-index-preserved
loop-index-preserved g c =
    let low = subst (λ n. c.loop-index.index < n) c.loop-index.retired.ok.0 (c.in-Some.ensures.variant.0 refl) in
    record {
      so_far = done_more _ _ _ _ _ c.loop-index.invariant.so_far _ low c.in-Some.ensures.value _ _ c.in_ok-empty_queue_into_list.ensures;
      count = c.loop-index.invariant.count;
    }

pub returns-in_err-empty_queue_into_list : goal.returns-in_err-empty_queue_into_list
returns-in_err-empty_queue_into_list g c =
    let low = subst (λ n. c.loop-index.index < n) c.loop-index.retired.ok.0 (c.in-Some.ensures.variant.0 refl) in
    let all = stops _ _ _ _ _ c.loop-index.invariant.so_far _ low c.in-Some.ensures.value _ _ _ _ c.requires c.in_err-empty_queue_into_list.ensures in
    let stop = err_from_is_err_and c.from_residual.result c.from_residual.ensures.1 in
    record { shut = all.0; swept = subst (AreSwept _ _ _ _) (sym (stop.1 ∙ ap (λ e. Err e) stop.2)) all.1 }

pub empty_queue_into_list-requires-2 : goal.empty_queue_into_list-requires-2
empty_queue_into_list-requires-2 g c = last_shut _ _ c.requires

pub returns : goal.returns
returns g c =
    let test = c.loop-index-test.false in
    let end = c.len-index-end.ensures in
    let count = c.loop-index.invariant.count in
    let items = c.loop-index.retired.ok.0 in
    let high : length c.loop-index.retired.items ≤ c.loop-index.index = omega arith in
    let all = ends _ _ _ _ _ c.loop-index.invariant.so_far _ _ _ _ high c.empty_queue_into_list-2.ensures in
    record { shut = all.0; swept = all.1 }

use Rattle.std.proofs.Common.{ap, ◌∙◌}
use Rattle.hub_trace.specs.Views.{accepted_in, got_among}
use Rattle.hub_trace.proofs.Verdicts.{verdict_along, clean_exactly}
use Rattle.hub_trace.proofs.checker.check.Goals as goal

pub returns-clause-verdict : goal.returns-clause-verdict
returns-clause-verdict c =
    verdict_along _ _ _ _ (λ e l. ap (λ xs. accepted_in xs e l) c.deref.ensures.value ∙ c.in_ok-accepted.ensures.lines e l)
    (λ e l. ap (λ xs. got_among xs e l) c.deref-2.ensures.value ∙ c.in_ok-arrivals.ensures.lines e l) c.first_fault.result c.first_fault.ensures

pub returns-clause-clean : goal.returns-clause-clean
returns-clause-clean c = clean_exactly c.args.logs.now c.first_fault.result (returns-clause-verdict c)

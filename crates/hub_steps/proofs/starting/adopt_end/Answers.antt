use Rattle.std.proofs.Common.{subst}
use Rattle.hub_core.specs.declared.step.Action.TheVariants as action
use Rattle.hub_steps.specs.Computation.{step}
use Rattle.hub_steps.specs.Performed.{ComputesAt}
use Rattle.hub_steps.proofs.Computing.{adopted_and_started}
use Rattle.hub_steps.proofs.starting.adopt_end.Goals as goal

pub returns-in_ok-start_if_worker_queue-in-Adopted : goal.returns-in_ok-start_if_worker_queue-in-Adopted
returns-in_ok-start_if_worker_queue-in-Adopted c =
    let refused = c.args.memory_refused in
    let old = c.args.core.now in
    let first = c.take_core_step.new.core in
    let adopted = subst (λ o. ComputesAt old first (step refused (action.Adopt c.args.end c.args.agent)) o) c.in-Adopted.is c.in_ok-answer.ensures.answer in
    adopted_and_started old first c.start_if_worker_queue.new.core refused c.args.end c.args.agent c.in-Adopted.queue adopted c.in_ok-start_if_worker_queue-in-Adopted.ensures

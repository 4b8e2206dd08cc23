use Rattle.std.proofs.Common.{subst}
use Rattle.hub_steps.specs.Computation.{step}
use Rattle.hub_steps.specs.Performed.{ComputesAt}
use Rattle.hub_steps.proofs.Computing.{made_and_started}
use Rattle.hub_steps.proofs.starting.make_and_start_queue.Goals as goal

pub returns-in_ok-take_core_step-in-End : goal.returns-in_ok-take_core_step-in-End
returns-in_ok-take_core_step-in-End c =
    let refused = c.args.memory_refused in
    let old = c.args.core.now in
    let first = c.take_core_step.new.core in
    let made = subst (λ o. ComputesAt old first (step refused c.args.action) o) c.in-End.is c.in_ok-answer.ensures.answer in
    made_and_started old first c.take_core_step-in-End.new.core refused c.args.action c.in-End.end c.in_ok-take_core_step-in-End.field-0 made c.in_ok-take_core_step-in-End.ensures.answer

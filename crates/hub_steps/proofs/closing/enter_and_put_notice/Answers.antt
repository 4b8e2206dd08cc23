use Rattle.std.proofs.Common.{subst}
use Rattle.hub_core.specs.declared.step.Action.TheVariants as action
use Rattle.hub_steps.specs.Computation.{step}
use Rattle.hub_steps.specs.Performed.{ComputesAt}
use Rattle.hub_steps.specs.Unfolding.{enter, tell}
use Rattle.hub_steps.proofs.Computing.{if_ok, told_in, told_nothing}
use Rattle.hub_steps.proofs.closing.enter_and_put_notice.Goals as goal

pub returns-in-In : goal.returns-in-In
returns-in-In c =
    let refused = c.args.memory_refused in
    let s = c.args.line in
    let entered = subst (λ o. ComputesAt c.args.core.now c.enter_queue_or_hop_to_later_one.new.core (enter 4 refused s) o) c.in-In.is c.in_ok-entered.ensures in
    if_ok (λ told. ComputesAt c.enter_queue_or_hop_to_later_one.new.core c.take_core_step.new.core (step refused (action.Notice s)) told) (λ told. ComputesAt c.args.core.now c.take_core_step.new.core (tell refused s) told)
    (λ told did. told_in c.args.core.now c.enter_queue_or_hop_to_later_one.new.core c.take_core_step.new.core refused s told entered did) c.take_core_step.result c.take_core_step.ensures.answer

pub returns-in_default : goal.returns-in_default
returns-in_default c = told_nothing c.args.core.now c.enter_queue_or_hop_to_later_one.new.core c.args.memory_refused c.args.line c.in_ok-entered.entered c.in_default.not-In c.in_ok-entered.ensures

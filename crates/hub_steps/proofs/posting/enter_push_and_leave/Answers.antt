use Rattle.std.proofs.Common.{subst}
use Rattle.hub_steps.specs.Performed.{ComputesAt}
use Rattle.hub_steps.specs.Unfolding.{enter}
use Rattle.hub_steps.proofs.Computing.{sent_in, sent_closed, sent_moved, sent_nothing}
use Rattle.hub_steps.proofs.posting.enter_push_and_leave.Goals as goal

pub returns-in_ok-take_core_step-in-In : goal.returns-in_ok-take_core_step-in-In
returns-in_ok-take_core_step-in-In c =
    let refused = c.args.memory_refused in
    let s = c.args.sender in
    let entered = subst (λ o. ComputesAt c.args.core.now c.enter_queue_or_hop_to_later_one.new.core (enter 4 refused s) o) c.in-In.is c.in_ok-entered.ensures in
    sent_in c.args.core.now c.enter_queue_or_hop_to_later_one.new.core c.take_core_step.new.core c.take_core_step-in-In.new.core refused c.args.ports c.args.body s c.in_ok-answer-in-In.answer c.in_ok-take_core_step-in-In.field-0 entered c.in_ok-answer-in-In.ensures.answer c.in_ok-take_core_step-in-In.ensures.answer

pub returns-in_ok-take_core_step-in-Closed : goal.returns-in_ok-take_core_step-in-Closed
returns-in_ok-take_core_step-in-Closed c =
    let refused = c.args.memory_refused in
    let s = c.args.sender in
    let entered = subst (λ o. ComputesAt c.args.core.now c.enter_queue_or_hop_to_later_one.new.core (enter 4 refused s) o) c.in-Closed.is c.in_ok-entered.ensures in
    sent_closed c.args.core.now c.enter_queue_or_hop_to_later_one.new.core c.take_core_step-in-Closed.new.core refused c.args.ports c.args.body s c.in_ok-take_core_step-in-Closed.field-0 entered c.in_ok-take_core_step-in-Closed.ensures.answer

pub returns-in_ok-take_core_step-in-Moved : goal.returns-in_ok-take_core_step-in-Moved
returns-in_ok-take_core_step-in-Moved c =
    let refused = c.args.memory_refused in
    let s = c.args.sender in
    let entered = subst (λ o. ComputesAt c.args.core.now c.enter_queue_or_hop_to_later_one.new.core (enter 4 refused s) o) c.in-Moved.is c.in_ok-entered.ensures in
    sent_moved c.args.core.now c.enter_queue_or_hop_to_later_one.new.core c.take_core_step-in-Moved.new.core refused c.args.ports c.args.body s c.in_ok-take_core_step-in-Moved.field-0 entered c.in_ok-take_core_step-in-Moved.ensures.answer

pub returns-in_default : goal.returns-in_default
returns-in_default c =
    let nothing = c.in_default in
    sent_nothing c.args.core.now c.enter_queue_or_hop_to_later_one.new.core c.args.memory_refused c.args.ports c.args.body c.args.sender c.in_ok-entered.entered nothing.not-In nothing.not-Closed nothing.not-Moved c.in_ok-entered.ensures

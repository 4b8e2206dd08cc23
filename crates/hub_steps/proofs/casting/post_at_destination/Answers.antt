use Rattle.hub_steps.proofs.Computing.{cast_there}
use Rattle.hub_steps.proofs.casting.post_at_destination.Goals as goal

pub returns : goal.returns
returns c =
    cast_there c.args.core.now c.take_core_step.new.core c.push_body_if_entered.new.core c.take_core_step-2.new.core c.args.memory_refused c.args.body.now c.args.end c.in_ok-entered.entered c.in_ok-answer.answer c.in_ok-take_core_step.field-0 c.in_ok-entered.ensures.answer c.in_ok-answer.ensures c.in_ok-take_core_step.ensures.answer

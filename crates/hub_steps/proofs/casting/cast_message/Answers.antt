use Rattle.hub_steps.proofs.Computing.{cast_on, cast_refused}
use Rattle.hub_steps.proofs.casting.cast_message.Goals as goal

pub returns-in-Destinations : goal.returns-in-Destinations
returns-in-Destinations c =
    cast_on c.args.core.now c.take_core_step.new.core c.post_at_each_destination.new.core c.args.memory_refused c.args.end c.args.ports c.args.body c.in_ok-clone.field-0 c.in-Destinations.ends c.as_slice.result.now c.in_ok-posts-in-Destinations.posts c.in_ok-answer.answer
    c.in_ok-clone.ensures.cases c.as_slice.ensures c.in-Destinations.is c.in_ok-answer.ensures.answer c.in_ok-posts-in-Destinations.ensures

pub returns : goal.returns
returns c =
    cast_refused c.args.core.now c.take_core_step.new.core c.args.memory_refused c.args.end c.args.ports c.args.body c.in_ok-clone.field-0 c.in_ok-answer.answer c.in_ok-clone.ensures.cases c.in_default.not-Destinations c.in_ok-answer.ensures.answer

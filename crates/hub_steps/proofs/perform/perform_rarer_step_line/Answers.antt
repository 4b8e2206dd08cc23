use Rattle.hub_steps.specs.declared.step_line.Command.TheVariants as command
use Rattle.hub_steps.proofs.Computing.{performed}
use Rattle.hub_steps.proofs.perform.perform_rarer_step_line.Goals as goal

pub returns-in-Step-clause-performed : goal.returns-in-Step-clause-performed
returns-in-Step-clause-performed c =
    performed c.args.core.now c.take_step_and_return_shown.new.core c.args.lives.now c.args.line (command.Step c.in-Step.action) c.take_step_and_return_shown.result c.in-Step.is c.take_step_and_return_shown.ensures.shown

pub returns-in-At-clause-performed : goal.returns-in-At-clause-performed
returns-in-At-clause-performed c =
    performed c.args.core.now c.perform_poster_command.new.core c.args.lives.now c.args.line (command.At c.in-At.poster c.in-At.command) c.perform_poster_command.result c.in-At.is c.perform_poster_command.ensures.performed

pub returns-in-Loaded-clause-performed : goal.returns-in-Loaded-clause-performed
returns-in-Loaded-clause-performed c =
    performed c.args.core.now c.start_if_client_queue.new.core c.args.lives.now c.args.line (command.Loaded c.in-Loaded.end) c.start_if_client_queue.result c.in-Loaded.is c.start_if_client_queue.ensures.shown

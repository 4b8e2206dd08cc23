use Rattle.hub_steps.specs.declared.step_line.Command.TheVariants as command
use Rattle.hub_steps.proofs.Computing.{performed}
use Rattle.hub_steps.proofs.perform.perform_step_line.Goals as goal

pub returns-in-At-clause-performed : goal.returns-in-At-clause-performed
returns-in-At-clause-performed c =
    performed c.args.core.now c.perform_poster_command.new.core c.args.lives.now c.args.line (command.At c.in-At.poster c.in-At.command) c.perform_poster_command.result c.in-At.is c.perform_poster_command.ensures.performed

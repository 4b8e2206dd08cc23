use Rattle.hub_steps.proofs.Sessions.{ran_line}
use Rattle.hub_steps.proofs.session.Session.run_and_keep_answer.Goals as goal

pub returns-in-Ok-write_untold_outcome-clause-ran : goal.returns-in-Ok-write_untold_outcome-clause-ran
returns-in-Ok-write_untold_outcome-clause-ran c = λ ran.
    let old = c.args.self.now.run in let new = c.write_untold_outcome.new.self in
    ran_line old.core c.perform_step_line.new.core new.run.core old.lives c.perform_step_line.new.lives new.run.lives c.args.line c.in-Ok.shown _ c.in-Ok.ensures.performed c.in-Ok.ensures.lives c.write_untold_outcome.ensures.stays.0 c.write_untold_outcome.ensures.stays.1

pub returns-in-Err-write_untold_outcome-clause-ran : goal.returns-in-Err-write_untold_outcome-clause-ran
returns-in-Err-write_untold_outcome-clause-ran c = λ ran.
    let old = c.args.self.now.run in let new = c.write_untold_outcome.new.self in
    ran_line old.core c.perform_step_line.new.core new.run.core old.lives c.perform_step_line.new.lives new.run.lives c.args.line c.in-Ok.shown _ c.in-Ok.ensures.performed c.in-Ok.ensures.lives c.write_untold_outcome.ensures.stays.0 c.write_untold_outcome.ensures.stays.1

use Rattle.hub_script.proofs.Obeying.{closes_held, posts_held, sends_held, starts_held}
use Rattle.hub_script.proofs.OneMeaning.{no_script, none_accepted, one_answer, one_refusal}
use Rattle.hub_script.proofs.script.prove_laws_of_accepted_script_lines.Goals as goal

pub returns-clause-posts : goal.returns-clause-posts
returns-clause-posts c = posts_held

pub returns-clause-sends : goal.returns-clause-sends
returns-clause-sends c = sends_held

pub returns-clause-starts : goal.returns-clause-starts
returns-clause-starts c = starts_held

pub returns-clause-closes : goal.returns-clause-closes
returns-clause-closes c = closes_held

pub returns-clause-one_refusal : goal.returns-clause-one_refusal
returns-clause-one_refusal c = one_refusal

pub returns-clause-none_accepted : goal.returns-clause-none_accepted
returns-clause-none_accepted c = none_accepted

pub returns-clause-one_answer : goal.returns-clause-one_answer
returns-clause-one_answer c = one_answer

pub returns-clause-no_script : goal.returns-clause-no_script
returns-clause-no_script c = no_script

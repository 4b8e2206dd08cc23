-- What was said to step lines is their text.
use Rattle.hub_steps.proofs.Sessions.{said_is_the_text}
use Rattle.hub_steps.proofs.session.prove_session_matches_run_steps.Goals as goal

pub returns : goal.returns
returns c = said_is_the_text

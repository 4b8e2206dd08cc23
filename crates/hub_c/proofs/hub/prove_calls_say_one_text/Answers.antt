-- What was said to step lines is their text.
use Rattle.hub_c.proofs.Calls.{said_is_text}
use Rattle.hub_c.proofs.hub.prove_calls_say_one_text.Goals as goal

pub returns : goal.returns
returns c = said_is_text

-- Step lines have one text.
use Rattle.hub_steps.proofs.OneText.{one_text}
use Rattle.hub_steps.proofs.engine.prove_step_output_deterministic.Goals as goal

pub returns : goal.returns
returns c = one_text

use Rattle.hub_modes.specs.RunOutput.{IsScriptOutput}
use Rattle.hub_modes.proofs.RunText.{runs_say}
use Rattle.hub_engine.proofs.Writing.{ends_weaker}
use Rattle.hub_modes.proofs.run.run_script_text.Goals as goal

pub returns-in-Ok : goal.returns-in-Ok
returns-in-Ok g c =
    ends_weaker _ _ (IsScriptOutput c.args.input.now) _ _ _ (runs_say c.args.input.now _ c.in-Ok.ensures.reads) c.run_script.ensures

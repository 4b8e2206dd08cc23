use Rattle.std.proofs.Common.{subst, sym}
use Rattle.hub_run.specs.Runs.{AreLogsFor}
use Rattle.hub_run.proofs.Logs.{logs_of}
use Rattle.hub_modes.specs.RunOutput.{SaysRun}
use Rattle.hub_modes.proofs.RunText.{run_says}
use Rattle.hub_engine.proofs.Writing.{ends_weaker}
use Rattle.hub_modes.proofs.run.run_script.Goals as goal

pub returns-in-Ok : goal.returns-in-Ok
returns-in-Ok g c =
    let kept = subst (AreLogsFor c.args.script.now) (sym c.deref.ensures.value) (logs_of c.args.script.now _ _ c.in-Ok.ensures) in
    ends_weaker _ _ (SaysRun c.args.script.now) _ _ _ (run_says c.args.script.now c.deref.result.now kept) c.write_logs_and_verdict.ensures

-- What a run prints, from its parts, and what that stands for.
use Rattle.std.proofs.Common.{◌≡◌, ℕ, List, [], ◌++◌, Ok, true, false, ap, ◌∙◌}
use Rattle.std.specs.Prelude.{codes}
use Rattle.hub_run.specs.Runs.{AreLogsFor}
use Rattle.hub_script.specs.Contents.{Contents}
use Rattle.hub_script.specs.Script.{script_of}
use Rattle.hub_script.specs.declared.error.ScriptError.TheVariants as script
use Rattle.hub_trace.specs.Accepted.{AgentLog}
use Rattle.hub_trace.specs.Deliveries.{AreDeliveries}
use Rattle.hub_trace.specs.Text.{file_text}
use Rattle.hub_trace.specs.declared.delivered.SenderLineDeliveries.{SenderLineDeliveries}
use Rattle.hub_engine.specs.declared.status.ExitStatus.{ExitStatus}
use Rattle.hub_engine.specs.declared.status.ExitStatus.TheVariants as status
use Rattle.hub_check.specs.CheckOutput.{IsVerdictLine, is_reached}
use Rattle.hub_modes.specs.RunOutput.{IsRunText, IsScriptOutput, SaysRun, delivered_text}

-- the logs, their deliveries and a verdict that was reached are what a run prints
pub whole : (logs : List AgentLog) (s : ExitStatus) (lines : List SenderLineDeliveries) (verdict text : List ℕ) → AreDeliveries logs lines → IsVerdictLine logs s verdict → is_reached s ≡ true
    → text ≡ file_text logs ++ codes "deliveries\n" ++ delivered_text lines ++ verdict → IsRunText logs s text
whole logs status.Success lines verdict text told said reached is = (lines, verdict, told, said, is)
whole logs status.Fault lines verdict text told said reached is = (lines, verdict, told, said, is)
whole logs status.Usage lines verdict text told said reached is = absurd (let f : false ≡ true = reached in cc)
whole logs status.BadInput lines verdict text told said reached is = absurd (let f : false ≡ true = reached in cc)
whole logs status.OutOfMemory lines verdict text told said reached is = absurd (let f : false ≡ true = reached in cc)
whole logs status.Device lines verdict text told said reached is = absurd (let f : false ≡ true = reached in cc)

-- five texts, added one after the other
pub joined : (h l d x v t0 t1 t2 t3 t4 t5 : List ℕ) → t0 ≡ [] → t1 ≡ t0 ++ h → t2 ≡ t1 ++ l → t3 ≡ t2 ++ d → t4 ≡ t3 ++ x → t5 ≡ t4 ++ v → t5 ≡ h ++ l ++ d ++ x ++ v
joined h l d x v t0 t1 t2 t3 t4 t5 e0 e1 e2 e3 e4 e5 =
    e5 ∙ ap (λ t. t ++ v) (e4 ∙ ap (λ t. t ++ x) (e3 ∙ ap (λ t. t ++ d) (e2 ∙ ap (λ t. t ++ l) (e1 ∙ ap (λ t. t ++ h) e0))))

-- logs that the script's agents may have kept are a run of it
pub run_says : (contents : Contents) (logs : List AgentLog) → AreLogsFor contents logs → (s : ExitStatus) (t : List ℕ) → IsRunText logs s t → SaysRun contents s t
run_says contents logs kept status.Success t said = (logs, kept, said)
run_says contents logs kept status.Fault t said = (logs, kept, said)
run_says contents logs kept status.OutOfMemory t said = said
run_says contents logs kept status.BadInput t said = absurd said
run_says contents logs kept status.Usage t said = absurd said
run_says contents logs kept status.Device t said = absurd said

-- what a run of the script says is what is written for its input
pub runs_say : (input : List ℕ) (contents : Contents) → script_of input ≡ Ok contents → (s : ExitStatus) (t : List ℕ) → SaysRun contents s t → IsScriptOutput input s t
runs_say input contents read status.Success t said = (contents, read, said)
runs_say input contents read status.Fault t said = (contents, read, said)
runs_say input contents read status.OutOfMemory t said = said
runs_say input contents read status.BadInput t said = absurd said
runs_say input contents read status.Usage t said = absurd said
runs_say input contents read status.Device t said = absurd said

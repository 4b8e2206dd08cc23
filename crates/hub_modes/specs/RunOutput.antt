-- What the engine of `run` writes, by the exit status that it answers.
use Rattle.std.specs.Prelude.{◌≡◌, ℕ, List, ◌++◌, Option, Some, None, Ok, Err, codes}
use Rattle.std.specs.List.{flat_map}
use Rattle.hub_run.specs.Runs.{AreLogsFor}
use Rattle.hub_script.specs.Contents.{Contents}
use Rattle.hub_script.specs.Errors.{script_kind_text}
use Rattle.hub_script.specs.Script.{script_of}
use Rattle.hub_script.specs.declared.error.ScriptError.{ScriptError}
use Rattle.hub_trace.specs.Accepted.{AgentLog}
use Rattle.hub_trace.specs.Deliveries.{AreDeliveries, delivered_line_text}
use Rattle.hub_trace.specs.Text.{file_text}
use Rattle.hub_trace.specs.declared.delivered.SenderLineDeliveries.{SenderLineDeliveries}
use Rattle.hub_engine.specs.declared.status.ExitStatus.{ExitStatus}
use Rattle.hub_engine.specs.declared.status.ExitStatus.TheVariants as status
use Rattle.hub_check.specs.CheckOutput.{IsVerdictLine}
use Rattle.hub_engine.specs.Engine.{IsBadLine}
use Rattle.hub_engine.specs.OutOfMemory.{out_of_memory}

-- a text line for each line of which something was delivered
abbrev pub delivered_text : List SenderLineDeliveries → List ℕ
delivered_text lines = flat_map (λ d. delivered_line_text d ++ codes "\n") lines

-- the logs, the deliveries that they tell of, and the verdict on them
abbrev pub IsWholeRun : List AgentLog → ExitStatus → List ℕ → Type 0
IsWholeRun logs s text =
    (lines : List SenderLineDeliveries) × (verdict : List ℕ) × AreDeliveries logs lines × IsVerdictLine logs s verdict
    × (text ≡ file_text logs ++ codes "deliveries\n" ++ delivered_text lines ++ verdict)

-- that, or for want of memory `out of memory` alone
abbrev pub IsRunText : List AgentLog → ExitStatus → List ℕ → Type 0
IsRunText logs status.Success text = IsWholeRun logs status.Success text
IsRunText logs status.Fault text = IsWholeRun logs status.Fault text
IsRunText logs status.OutOfMemory text = text ≡ out_of_memory
IsRunText logs _ text = ⊥

-- What is written for a script: a run of logs that its agents may have kept. There is none where memory was wanting.
abbrev pub SaysRun : Contents → ExitStatus → List ℕ → Type 0
SaysRun script status.Success text = (logs : List AgentLog) × AreLogsFor script logs × IsWholeRun logs status.Success text
SaysRun script status.Fault text = (logs : List AgentLog) × AreLogsFor script logs × IsWholeRun logs status.Fault text
SaysRun script status.OutOfMemory text = text ≡ out_of_memory
SaysRun script _ text = ⊥

-- what is written for an input: what is written for its script, or the one line of bad input, or `out of memory`
abbrev pub IsScriptOutput : List ℕ → ExitStatus → List ℕ → Type 0
IsScriptOutput input status.Success text = (script : Contents) × (script_of input ≡ Ok script) × SaysRun script status.Success text
IsScriptOutput input status.Fault text = (script : Contents) × (script_of input ≡ Ok script) × SaysRun script status.Fault text
IsScriptOutput input status.BadInput text = (n : ℕ) × (kind : ScriptError) × (script_of input ≡ Err (n, kind)) × IsBadLine n (script_kind_text kind) text
IsScriptOutput input status.OutOfMemory text = text ≡ out_of_memory
IsScriptOutput input _ text = ⊥

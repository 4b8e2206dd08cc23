-- What whole texts are answered with.
use Rattle.std.specs.Prelude.{◌≡◌, ℕ, ◌⊎◌, List, [], Option, Some, None, Ok, Err}
use Rattle.hub_engine.specs.declared.status.ExitStatus.{ExitStatus}
use Rattle.hub_engine.specs.declared.status.ExitStatus.TheVariants as status
use Rattle.hub_engine.specs.Engine.{IsBadLine}
use Rattle.hub_engine.specs.OutOfMemory.{out_of_memory}
use Rattle.hub_engine.specs.Status.{status_number}
use Rattle.hub_script.specs.Contents.{Contents}
use Rattle.hub_script.specs.Errors.{script_kind_text}
use Rattle.hub_script.specs.Script.{script_of}
use Rattle.hub_script.specs.declared.error.ScriptError.{ScriptError}
use Rattle.hub_steps.specs.Output.{IsStepsOutput}
use Rattle.hub_check.specs.CheckOutput.{IsCheckOutput}
use Rattle.hub_c.specs.Fills.{Fills}

-- What is said by some exit status, with its number and the text in the room; or memory ran out for the text.
abbrev pub SaysInRoom : (ExitStatus → List ℕ → Type 0) → List ℕ → List ℕ → ℕ → ℕ → Type 0
SaysInRoom says old new n answer =
    ((s : ExitStatus) × (text : List ℕ) × (answer ≡ status_number s) × says s text × Fills old new n text) ⊎ (answer ≡ 4)

-- what `messagehub steps` writes for the input, with its exit status
abbrev pub AnswersSteps : List ℕ → List ℕ → List ℕ → ℕ → ℕ → Type 0
AnswersSteps input = SaysInRoom (IsStepsOutput input)

-- what `messagehub check` writes for the logs, with its exit status
abbrev pub AnswersCheck : List ℕ → List ℕ → List ℕ → ℕ → ℕ → Type 0
AnswersCheck input = SaysInRoom (IsCheckOutput input)

-- nothing of a text that is a script, the one line of one that isn't, or `out of memory`
abbrev pub IsScriptVerdict : List ℕ → ExitStatus → List ℕ → Type 0
IsScriptVerdict input status.Success text = (script : Contents) × (script_of input ≡ Ok script) × (text ≡ [])
IsScriptVerdict input status.BadInput text = (n : ℕ) × (kind : ScriptError) × (script_of input ≡ Err (n, kind)) × IsBadLine n (script_kind_text kind) text
IsScriptVerdict input status.OutOfMemory text = text ≡ out_of_memory
IsScriptVerdict input _ text = ⊥

abbrev pub AnswersScript : List ℕ → List ℕ → List ℕ → ℕ → ℕ → Type 0
AnswersScript input = SaysInRoom (IsScriptVerdict input)

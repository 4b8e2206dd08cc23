-- What the engine of `steps` writes for an input, by the exit status that it answers.
use Rattle.std.specs.Prelude.{◌≡◌, ℕ, ◌⊎◌, List, ◌++◌, Ok, Err, refl}
use Rattle.std.proofs.Common.{inl}
use Rattle.hub_engine.specs.declared.status.ExitStatus.{ExitStatus}
use Rattle.hub_engine.specs.declared.status.ExitStatus.TheVariants as status
use Rattle.hub_steps.specs.declared.step_line.StepLine.{StepLine}
use Rattle.hub_steps.specs.declared.step_line.StepLineError.{StepLineError}
use Rattle.hub_engine.specs.Engine.{IsBadLine}
use Rattle.hub_engine.specs.OutOfMemory.{out_of_memory}
use Rattle.hub_steps.specs.StepLineKind.{step_kind_text}
use Rattle.hub_steps.specs.Steps.{steps_of}
use Rattle.hub_steps.specs.StepText.{IsStepText}

-- the text of the first of the step lines, and `out of memory` as the last line
abbrev pub IsCutShort : List StepLine → List ℕ → Type 0
IsCutShort lines text =
    (front : List StepLine) × (back : List StepLine) × (said : List ℕ) × (lines ≡ front ++ back) × IsStepText front said × (text ≡ said ++ out_of_memory)

-- what is written for step lines: the text of them all, or for want of memory of the first of them
abbrev pub IsRunOutput : List StepLine → ExitStatus → List ℕ → Type 0
IsRunOutput lines status.Success text = IsStepText lines text
IsRunOutput lines status.OutOfMemory text = IsCutShort lines text
IsRunOutput lines _ text = ⊥

-- what is written for an input: that text, or the one line of bad input, or for want of memory before
-- anything was written `out of memory` alone
abbrev pub IsStepsOutput : List ℕ → ExitStatus → List ℕ → Type 0
IsStepsOutput input status.Success text = (lines : List StepLine) × (steps_of input ≡ Ok lines) × IsStepText lines text
IsStepsOutput input status.BadInput text = (n : ℕ) × (kind : StepLineError) × (steps_of input ≡ Err (n, kind)) × IsBadLine n (step_kind_text kind) text
IsStepsOutput input status.OutOfMemory text = (text ≡ out_of_memory) ⊎ ((lines : List StepLine) × (steps_of input ≡ Ok lines) × IsCutShort lines text)
IsStepsOutput input _ text = ⊥

-- `out of memory` alone is what is written for want of memory
pub steps_without_memory : (input : List ℕ) → IsStepsOutput input status.OutOfMemory out_of_memory
steps_without_memory input = inl refl

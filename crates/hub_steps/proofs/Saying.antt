-- What the engine of step lines has written, and what that stands for.
use Rattle.std.proofs.Common.{◌≡◌, ◌⊎◌, ℕ, List, Ok, Err, subst, inl, inr}
use Rattle.hub_engine.specs.declared.status.ExitStatus.{ExitStatus}
use Rattle.hub_engine.specs.declared.status.ExitStatus.TheVariants as status
use Rattle.hub_steps.specs.declared.step_line.StepLine.{StepLine}
use Rattle.hub_steps.specs.declared.step_line.StepLineError.{StepLineError}
use Rattle.hub_steps.specs.declared.step_line.StepLineError.TheVariants as kind
use Rattle.hub_engine.specs.Engine.{IsBadLine, SaysUnread}
use Rattle.hub_steps.specs.Output.{IsRunOutput, IsStepsOutput}
use Rattle.hub_steps.specs.StepLineKind.{step_kind_text}
use Rattle.hub_steps.specs.Steps.{steps_of}

pub unread_steps : (input : List ℕ) (line : ℕ) (error : StepLineError) → (error ≡ kind.OutOfMemory) ⊎ (steps_of input ≡ Err (line, error)) → (s : ExitStatus) (t : List ℕ) → SaysUnread line (step_kind_text error) s t → IsStepsOutput input s t
unread_steps input line error (inl e) status.BadInput t said = absurd (subst (λ k. IsBadLine line (step_kind_text k) t) e said)
unread_steps input line error (inr h) status.BadInput t said = (line, error, h, said)
unread_steps input line error r status.OutOfMemory t said = inl said
unread_steps input line error r status.Success t said = absurd said
unread_steps input line error r status.Fault t said = absurd said
unread_steps input line error r status.Usage t said = absurd said
unread_steps input line error r status.Device t said = absurd said

pub run_steps_say : (input : List ℕ) (lines : List StepLine) → steps_of input ≡ Ok lines → (s : ExitStatus) (t : List ℕ) → IsRunOutput lines s t → IsStepsOutput input s t
run_steps_say input lines read status.Success t said = (lines, read, said)
run_steps_say input lines read status.OutOfMemory t said = inr (lines, read, said)
run_steps_say input lines read status.BadInput t said = absurd said
run_steps_say input lines read status.Fault t said = absurd said
run_steps_say input lines read status.Usage t said = absurd said
run_steps_say input lines read status.Device t said = absurd said

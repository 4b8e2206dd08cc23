-- What is written for an input, once its first step lines were run and their text is kept.
use Rattle.std.proofs.Common.{◌≡◌, ◌⊎◌, ℕ, ◌+◌, List, ◌++◌, true, Option, Result, Ok, Err, subst, inl, inr}
use Rattle.hub_engine.specs.declared.status.Device.{Device}
use Rattle.hub_engine.specs.declared.status.ExitStatus.{ExitStatus}
use Rattle.hub_engine.specs.Engine.{Writes}
use Rattle.hub_core.specs.declared.machine.Core.{Core}
use Rattle.hub_text.specs.TextLines.{text_lines_of}
use Rattle.hub_steps.specs.declared.run.HeldBack.{HeldBack}
use Rattle.hub_steps.specs.declared.step_line.StepLine.{StepLine}
use Rattle.hub_steps.specs.declared.step_line.StepLineError.{StepLineError}
use Rattle.hub_steps.specs.declared.step_line.StepLineError.TheVariants as kind
use Rattle.hub_steps.specs.Lives.{AllLives}
use Rattle.hub_steps.specs.Output.{IsRunOutput, IsStepsOutput}
use Rattle.hub_steps.specs.Steps.{steps_from, steps_of}
use Rattle.hub_steps.specs.UnderWay.{AreRun, AreLinesTold, IsHeld}
use Rattle.hub_engine.proofs.Writing.{writes_weaker}
use Rattle.hub_steps.proofs.Numbered.{is_unread, is_whole}
use Rattle.hub_steps.proofs.Saying.{run_steps_say}
use Rattle.hub_steps.proofs.UnderWay.{unsent}

-- a text line that is left wasn't read
pub unread_later : (input : List ℕ) (held : HeldBack) (line : ℕ) (error : StepLineError) → IsHeld input held → (error ≡ kind.OutOfMemory) ⊎ (steps_from (held.number + 1) (text_lines_of held.rest.now) ≡ Err (line, error))
    → (error ≡ kind.OutOfMemory) ⊎ (steps_of input ≡ Err (line, error))
unread_later input held line error h (inl e) = inl e
unread_later input held line error h (inr unread) = inr (is_unread h.front (line, error) (steps_from (held.number + 1) (text_lines_of held.rest.now)) (steps_of input) h.left unread)

-- the others were run too
pub runs_to_end : (input : List ℕ) (held : HeldBack) (old new : Option (List ℕ)) (r : Result ExitStatus Device) → IsHeld input held → held.has_memory ≡ true → (back : List StepLine) × (steps_from (held.number + 1) (text_lines_of held.rest.now) ≡ Ok back)
    → ((front back : List StepLine) (n : ℕ) → AreRun held.run.core held.run.lives held.run.kept.items front → steps_from n (text_lines_of held.rest.now) ≡ Ok back → Writes (IsRunOutput (front ++ back)) old new r)
    → Writes (IsStepsOutput input) old new r
runs_to_end input held old new r h e read w =
    let same = h.current e in
    let run = subst (λ l. AreRun held.run.core l held.run.kept.items h.front) same.1 (subst (λ k. AreRun k h.lives held.run.kept.items h.front) same.0 h.run) in
    let whole = is_whole h.front read.0 (steps_from (held.number + 1) (text_lines_of held.rest.now)) (steps_of input) h.left read.1 in
    writes_weaker (IsRunOutput (h.front ++ read.0)) (IsStepsOutput input) old new r (run_steps_say input (h.front ++ read.0) whole) (w h.front read.0 (held.number + 1) run read.1)

-- memory ran out
pub ends_early : (input : List ℕ) (held : HeldBack) (old new : Option (List ℕ)) (r : Result ExitStatus Device) → IsHeld input held → (back : List StepLine) × (steps_from (held.number + 1) (text_lines_of held.rest.now) ≡ Ok back)
    → ((before : Option (List ℕ)) (core : Core) (lives : AllLives) (front back : List StepLine) → AreLinesTold before old core lives held.run.kept.items front → Writes (IsRunOutput (front ++ back)) before new r)
    → Writes (IsStepsOutput input) old new r
ends_early input held old new r h read w =
    let whole = is_whole h.front read.0 (steps_from (held.number + 1) (text_lines_of held.rest.now)) (steps_of input) h.left read.1 in
    writes_weaker (IsRunOutput (h.front ++ read.0)) (IsStepsOutput input) old new r (run_steps_say input (h.front ++ read.0) whole) (w old h.core h.lives h.front read.0 (unsent old h.core h.lives held.run.kept.items h.front h.run))

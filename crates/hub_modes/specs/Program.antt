-- What the program does for its arguments.
use Rattle.std.specs.Prelude.{◌≡◌, ℕ, List, Option, Some, None, Result, Ok}
use Rattle.hub_engine.specs.declared.counted_reader.CountedReader.{CountedReader}
use Rattle.hub_engine.specs.declared.counted_writer.CountedWriter.{CountedWriter}
use Rattle.hub_engine.specs.declared.status.Device.{Device}
use Rattle.hub_modes.specs.declared.program.Mode.{Mode}
use Rattle.hub_modes.specs.declared.program.Mode.TheVariants.{Steps, Run, Check}
use Rattle.hub_engine.specs.declared.status.ExitStatus.{ExitStatus}
use Rattle.hub_engine.specs.declared.status.ExitStatus.TheVariants.{Usage}
use Rattle.hub_check.specs.CheckOutput.{IsCheckOutput}
use Rattle.hub_engine.specs.Engine.{EndsAnswer}
use Rattle.hub_steps.specs.Output.{IsStepsOutput}
use Rattle.hub_modes.specs.RunOutput.{IsScriptOutput}

-- what a mode's engine writes for an input, by the exit status
abbrev pub output_of : Mode → List ℕ → ExitStatus → List ℕ → Type 0
output_of Steps = IsStepsOutput
output_of Run = IsScriptOutput
output_of Check = IsCheckOutput

-- The engine of the mode that is asked for has answered. Where none is asked for, the usage line is due,
-- and reader and writer are as they were.
abbrev pub AnswersWords : {R W : Type 0} → Option Mode → (R → Option (List ℕ)) → (W → Option (List ℕ)) → CountedReader R → CountedReader R → CountedWriter W → CountedWriter W → Result ExitStatus Device → Type 0
AnswersWords None left contents r r' w w' result = (result ≡ Ok Usage) × (r' ≡ r) × (w' ≡ w)
AnswersWords (Some mode) left contents r r' w w' result = EndsAnswer left contents (output_of mode) r r' w w' result

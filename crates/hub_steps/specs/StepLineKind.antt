-- The kinds of bad step lines, as they are printed. Want of memory is no kind of bad line.
use Rattle.std.specs.Prelude.{ℕ, List, Option, Some, None, codes}
use Rattle.hub_steps.specs.declared.step_line.StepLineError.{StepLineError}
use Rattle.hub_steps.specs.declared.step_line.StepLineError.TheVariants as kind

abbrev pub step_kind_text : StepLineError → Option (List ℕ)
step_kind_text kind.BadUtf8 = Some (codes "BadUtf8")
step_kind_text kind.UnknownStep = Some (codes "UnknownStep")
step_kind_text kind.BadWords = Some (codes "BadWords")
step_kind_text kind.BadNumber = Some (codes "BadNumber")
step_kind_text kind.BadPoster = Some (codes "BadPoster")
step_kind_text kind.BadList = Some (codes "BadList")
step_kind_text kind.BadName = Some (codes "BadName")
step_kind_text kind.BadEvent = Some (codes "BadEvent")
step_kind_text kind.NotJson = Some (codes "NotJson")
step_kind_text kind.NotWhole = Some (codes "NotWhole")
step_kind_text kind.TooDeep = Some (codes "TooDeep")
step_kind_text kind.TooLong = Some (codes "TooLong")
step_kind_text kind.OutOfMemory = None

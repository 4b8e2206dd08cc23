-- Why a step line with a bad body is bad.
use Rattle.hub_envelope.specs.declared.body.BodyError.{BodyError}
use Rattle.hub_envelope.specs.declared.body.BodyError.TheVariants as body
use Rattle.hub_steps.specs.declared.step_line.StepLineError.{StepLineError}
use Rattle.hub_steps.specs.declared.step_line.StepLineError.TheVariants.{NotJson, NotWhole, TooDeep, TooLong, OutOfMemory}

-- the kind of the same name
abbrev pub body_kind : BodyError → StepLineError
body_kind body.NotJson = NotJson
body_kind body.NotWhole = NotWhole
body_kind body.TooDeep = TooDeep
body_kind body.TooLong = TooLong
body_kind body.OutOfMemory = OutOfMemory

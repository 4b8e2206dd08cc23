-- The numbers of the exit statuses.
use Rattle.std.specs.Prelude.{ℕ}
use Rattle.hub_engine.specs.declared.status.ExitStatus.{ExitStatus}
use Rattle.hub_engine.specs.declared.status.ExitStatus.TheVariants.{Success, Fault, Usage, BadInput, OutOfMemory, Device}

-- the number that the process ends with
abbrev pub status_number : ExitStatus → ℕ
status_number Success = 0
status_number Fault = 1
status_number Usage = 2
status_number BadInput = 2
status_number OutOfMemory = 3
status_number Device = 4

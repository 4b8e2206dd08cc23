-- How the process ends, by what was answered.
use Rattle.std.specs.Prelude.{ℕ, List, Option, Some, None, Result, Ok, Err, codes}
use Rattle.hub_engine.specs.declared.status.Device.{Device as DeviceFailure}
use Rattle.hub_engine.specs.declared.status.ExitStatus.{ExitStatus}
use Rattle.hub_engine.specs.declared.status.ExitStatus.TheVariants.{Usage, Device}

-- the exit status
abbrev pub status_for : Result ExitStatus DeviceFailure → ExitStatus
status_for (Ok status) = status
status_for (Err failed) = Device

-- what is printed on standard error: the usage line, or that a read or a write failed
abbrev pub message_for : Result ExitStatus DeviceFailure → Option (List ℕ)
message_for (Ok Usage) = Some (codes "usage: messagehub steps|run|check")
message_for (Ok _) = None
message_for (Err failed) = Some (codes "input or output failed")

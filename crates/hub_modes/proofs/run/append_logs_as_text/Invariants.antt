use Rattle.std.proofs.Common.{◌≡◌, ◌++◌, take}
use Rattle.std.specs.Prelude.{string_bytes}
use Rattle.std.specs.List.{flat_map}
use Rattle.hub_trace.specs.Text.{log_text}
use Rattle.hub_modes.proofs.run.append_logs_as_text.Given as goal

abbrev pub invariant-loop-log : goal.invariant-loop-log
invariant-loop-log l = string_bytes l.text ≡ string_bytes l.fn.text ++ flat_map log_text (take l.log-index l.logs)

use Rattle.std.proofs.Common.{◌≡◌, ◌++◌, take}
use Rattle.std.specs.Prelude.{string_bytes}
use Rattle.hub_modes.specs.RunOutput.{delivered_text}
use Rattle.hub_modes.proofs.run.write_deliveries.Given as goal

abbrev pub invariant-loop-line : goal.invariant-loop-line
invariant-loop-line l = string_bytes l.text ≡ string_bytes l.fn.text ++ delivered_text (take l.line-index l.lines)

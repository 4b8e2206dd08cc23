use Rattle.std.proofs.Common.{◌++◌, take, codes}
use Rattle.std.specs.Fmt.{HasWritten, IsPlainFormatter}
use Rattle.std.specs.List.{flat_map}
use Rattle.hub_trace.specs.Text.{entry_text}
use Rattle.hub_trace.proofs.log.LogDisplay.fmt.Given as goal

abbrev pub invariant-loop-entry : goal.invariant-loop-entry
invariant-loop-entry g l =
    IsPlainFormatter l.initial.f → HasWritten g.W.Write.write_str_gives l.initial.f (flat_map (λ e. entry_text e ++ codes "\n") (take l.entry-index l.entry-items)) l.f

use Rattle.std.proofs.Common.{take}
use Rattle.std.specs.Fmt.{HasWritten, IsPlainFormatter}
use Rattle.std.specs.List.{flat_map}
use Rattle.hub_trace.specs.Deliveries.{name_printed}
use Rattle.hub_trace.proofs.delivered.SenderLineDeliveriesDisplay.fmt.Given as goal

abbrev pub invariant-loop-posted : goal.invariant-loop-posted
invariant-loop-posted g l =
    IsPlainFormatter l.initial.f → HasWritten g.W.Write.write_str_gives l.initial.f (flat_map name_printed (take l.posted-index l.posted-items)) l.f

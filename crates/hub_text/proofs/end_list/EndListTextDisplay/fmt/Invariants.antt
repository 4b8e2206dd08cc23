use Rattle.std.proofs.Common.{take}
use Rattle.std.specs.Fmt.{HasWritten, IsPlainFormatter}
use Rattle.hub_text.specs.EndList.{more_ends_text}
use Rattle.hub_text.proofs.end_list.EndListTextDisplay.fmt.Given as goal

-- what is written after the first number are the others so far
abbrev pub invariant-loop-other : goal.invariant-loop-other
invariant-loop-other g l =
    IsPlainFormatter l.initial.f → HasWritten g.W.Write.write_str_gives l.initial.f (more_ends_text (take l.other-index l.others)) l.f

use Rattle.hub_fan.specs.Places.{GivesNone}
use Rattle.hub_fan.proofs.Below.{DoneBelow}
use Rattle.hub_fan.proofs.places.any_place_has_item_or_end.Given as goal

abbrev pub invariant-loop-line : goal.invariant-loop-line
invariant-loop-line g l = DoneBelow GivesNone l.line-index l.fn.lines l.lines

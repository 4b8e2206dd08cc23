use Rattle.std.proofs.Common.{◌≡◌, ◌<◌}
use Rattle.hub_fan.specs.Fans.{AskedWhere}
use Rattle.hub_fan.specs.Turns.{turn_stage}
use Rattle.hub_fan.proofs.asking.take_from_lines_of_stage.Given as goal

abbrev pub invariant-loop-line : goal.invariant-loop-line
invariant-loop-line g l = AskedWhere (λ j. (turn_stage l.next l.ready j ≡ l.stage) × (j < l.line)) l.fn.lines l.lines

use Rattle.std.proofs.Common.{◌<◌}
use Rattle.hub_fan.specs.Fans.{AskedWhere}
use Rattle.hub_fan.specs.Turns.{turn_stage}
use Rattle.hub_fan.proofs.asking.take_one_asking_ready_lines_first.Given as goal

abbrev pub invariant-loop-stage : goal.invariant-loop-stage
invariant-loop-stage g l = AskedWhere (λ j. turn_stage l.next l.ready j < l.stage) l.fn.lines l.lines

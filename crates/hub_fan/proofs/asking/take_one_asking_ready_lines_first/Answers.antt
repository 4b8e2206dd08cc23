use Rattle.hub_fan.specs.Turns.{turn_stage}
use Rattle.hub_fan.proofs.Asked.{asked_stage, took_stage}
use Rattle.hub_fan.proofs.asking.take_one_asking_ready_lines_first.Goals as goal

pub loop-stage-preserved : goal.loop-stage-preserved
loop-stage-preserved g c = asked_stage (turn_stage c.args.next c.args.ready) c.loop-stage.stage c.args.lines.now c.loop-stage.lines c.take_from_lines_of_stage.new.lines c.loop-stage.invariant c.in-Empty.ensures.took

pub returns-in_default-clause-took : goal.returns-in_default-clause-took
returns-in_default-clause-took g c =
    took_stage (turn_stage c.args.next c.args.ready) c.loop-stage.stage c.args.lines.now c.loop-stage.lines c.take_from_lines_of_stage.new.lines c.loop-stage.invariant
    c.take_from_lines_of_stage.result c.take_from_lines_of_stage.ensures.some c.in_default.not-Empty c.requires c.take_from_lines_of_stage.ensures.from c.take_from_lines_of_stage.ensures.took

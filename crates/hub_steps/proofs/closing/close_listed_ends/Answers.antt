use Rattle.std.proofs.Math.Seq.{drop-cons}
use Rattle.hub_steps.proofs.Computing.{closed_more}
use Rattle.hub_steps.proofs.closing.close_listed_ends.Goals as goal

pub loop-end-preserved : goal.loop-end-preserved
loop-end-preserved c =
    closed_more c.loop-end.end-index c.args.core.now c.loop-end.core c.close_end.new.core c.args.memory_refused c.args.ends.now _ c.in_ok-close_end.field-0 (drop-cons c.args.ends.now c.loop-end.end-index _ c.loop-end-test.true) c.loop-end.invariant c.in_ok-close_end.ensures

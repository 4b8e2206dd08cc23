use Rattle.std.proofs.Common.{◌+◌, subst, sym}
use Rattle.std.proofs.Math.ListN.{drop_of_length-le}
use Rattle.std.proofs.Math.Seq.{drop-cons}
use Rattle.hub_steps.specs.Performed.{ComputesAt}
use Rattle.hub_steps.specs.Unfolding.{cast_each}
use Rattle.hub_steps.proofs.Computing.{CastFirst, cast_done, cast_more}
use Rattle.hub_steps.proofs.casting.post_at_each_destination.Goals as goal

pub loop-end-preserved : goal.loop-end-preserved
loop-end-preserved c =
    let ends = c.args.ends.now in
    let body = c.args.body.now in
    let refused = c.args.memory_refused in
    let done = c.loop-end.end-index in
    subst (CastFirst c.args.core.now c.post_at_destination.new.core (done + 1) refused body ends) (sym c.in_ok-push.ensures.items)
    (cast_more done c.args.core.now c.loop-end.core c.post_at_destination.new.core refused body ends _ c.in_ok-outcome.outcome c.loop-end.posts.items (drop-cons ends done _ c.loop-end-test.true) c.loop-end.invariant c.in_ok-outcome.ensures)

pub returns : goal.returns
returns c =
    subst (ComputesAt c.args.core.now c.loop-end.core (cast_each c.args.memory_refused c.args.body.now c.args.ends.now)) (sym c.from_vec.ensures)
    (cast_done c.loop-end.end-index c.args.core.now c.loop-end.core c.args.memory_refused c.args.body.now c.args.ends.now c.loop-end.posts.items (drop_of_length-le c.args.ends.now c.loop-end-test.false) c.loop-end.invariant)

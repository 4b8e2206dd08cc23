use Rattle.std.proofs.Common.{◌≡◌, ◌∙◌, ◌+◌, suc, take, ap, arith}
use Rattle.std.proofs.Math.Seq.{take-suc}
use Rattle.hub_agent.proofs.Walking.{cast_more}
use Rattle.hub_agent.proofs.logging.log_accepted_posts_of_cast.Goals as goal

pub loop-outcome-preserved : goal.loop-outcome-preserved
loop-outcome-preserved c =
    let all = c.args.outcomes.now in
    let done = c.loop-outcome.outcome-index in
    let next : done + 1 ≡ suc done = omega arith in
    cast_more c.args.body.now (take done all) (take (done + 1) all) _ c.args.scribe.now c.loop-outcome.scribe c.log_cast_post_if_accepted.new.scribe (ap (λ n. take n all) next ∙ take-suc all done _ c.loop-outcome-test.true) c.loop-outcome.invariant c.in_ok-log_cast_post_if_accepted.ensures

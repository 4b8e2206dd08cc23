use Rattle.std.proofs.Common.{◌≡◌, ◌∙◌, ◌+◌, suc, take, ap, arith}
use Rattle.std.proofs.Math.Seq.{take-suc}
use Rattle.hub_agent.proofs.Walking.{adopts_more}
use Rattle.hub_agent.proofs.agent.log_all_adopted.Goals as goal

pub loop-end-preserved : goal.loop-end-preserved
loop-end-preserved g c =
    let all = c.args.ends.now in
    let done = c.loop-end.end-index in
    let next : done + 1 ≡ suc done = omega arith in
    adopts_more (take done all) (take (done + 1) all) _ c.args.scribe.now c.loop-end.scribe c.log_adopted.new.scribe (ap (λ n. take n all) next ∙ take-suc all done _ c.loop-end-test.true) c.loop-end.invariant c.in_ok-log_adopted.ensures

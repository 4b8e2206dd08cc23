use Rattle.std.proofs.Common.{◌≡◌, ◌≤◌, ◌∙◌, ◌+◌, List, suc, take, ap, arith, subst}
use Rattle.std.proofs.Math.Seq.{take-suc}
use Rattle.std.proofs.lemmas.List.{take_all}
use Rattle.hub_envelope.specs.declared.ids.EndId.{EndId}
use Rattle.hub_agent.specs.Owning.{times}
use Rattle.hub_agent.proofs.Closings.{set_more}
use Rattle.hub_agent.proofs.ending.collect_ends_into_set.Goals as goal

pub loop-end-preserved : goal.loop-end-preserved
loop-end-preserved c =
    let all = c.args.ends.now in
    let done = c.loop-end.end-index in
    let next : done + 1 ≡ suc done = omega arith in
    set_more _ c.loop-end.set.keys c.insert.new.self.keys (take done all) _ (take (done + 1) all) c.in_ok-insert.ensures.keys (ap (λ n. take n all) next ∙ take-suc all done _ c.loop-end-test.true) c.loop-end.invariant

pub returns : goal.returns
returns c = λ e. subst (λ (ends : List EndId). times e c.loop-end.set.keys ≤ times e ends) (take_all c.loop-end.end-index c.args.ends.now (omega (arith, c.loop-end-test.false))) (c.loop-end.invariant e)

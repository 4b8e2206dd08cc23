use Rattle.std.specs.Prelude.{◌≡◌, ℕ, ◌+◌, ◌<◌, get_or, vec_items, vec_len}
use Rattle.std.specs.Vec.Iter.{into_iter_len}
use Rattle.std.proofs.Common.{rules, arith, below_more, length, subst, sym}
use Rattle.hub_agent.specs.declared.actor.Acted.{Acted}
use Rattle.hub_script.specs.Contents.{Contents, declared_agents}
use Rattle.hub_trace.specs.Accepted.{AgentLog}
use Rattle.hub_agent.specs.Acting.{IsRunFor}
use Rattle.hub_run.proofs.Logs.{runs_for}
use Rattle.hub_run.proofs.run.join_all.Goals as goal

-- the handle that is joined stood first among the rest, so its promise is of the next agent
pub loop-handle-preserved : goal.loop-handle-preserved
loop-handle-preserved g c =
    let was = c.loop-handle.invariant in
    let step = c.in-Some.ensures.steps in
    let done = vec_len c.loop-handle.run.logs in
    let script = c.args._script.now in
    let handle = c.in-Some.handle in
    let ran = c.in_ok-log.field-0 in
    let logs = vec_items c.push_or_drop.new.list in
    let acted = vec_items c.push_or_drop-in-loop-handle.new.list in
    let number_is : handle.promise.number.0 ≡ done = let h = was.1 0 handle in grind rules in
    let script_is : handle.promise.script.now ≡ script = let h = was.2 0 handle in grind rules in
    let here : IsRunFor script (record { 0 = done }) ran.log ran.acted =
    subst (λ (s : Contents). IsRunFor s (record { 0 = done }) ran.log ran.acted) script_is
    (subst (λ (n : ℕ). IsRunFor handle.promise.script.now (record { 0 = n }) ran.log ran.acted) number_is c.in_ok-log.ensures) in
    let grown : vec_len c.push_or_drop.new.list ≡ done + 1 = search rules in (
      search rules,
      (λ k d below. let h = was.1 (k + 1) d in grind rules),
      (λ k d below. let h = was.2 (k + 1) d in grind rules),
      search rules,
      λ k d e below. below_more (λ i. IsRunFor script (record { 0 = i }) (get_or logs i d) (get_or acted i e)) done
          (λ i low. subst (λ (l : AgentLog). IsRunFor script (record { 0 = i }) l (get_or acted i e)) (sym (c.in_ok-push_or_drop.ensures.others i d low))
          (subst (λ (a : Acted). IsRunFor script (record { 0 = i }) (get_or (vec_items c.loop-handle.run.logs) i d) a) (sym (c.in_ok-push_or_drop-2.ensures.others i e (subst (λ n. i < n) (sym was.3) low))) (was.4 i d e low)))
          (subst (λ (l : AgentLog). IsRunFor script (record { 0 = done }) l (get_or acted done e)) (sym (c.in_ok-push_or_drop.ensures.last d))
          (subst (λ (a : Acted). IsRunFor script (record { 0 = done }) ran.log a)
          (sym (subst (λ n. get_or acted n e ≡ ran.acted) was.3 (c.in_ok-push_or_drop-2.ensures.last e))) here)) k (omega arith),
    )

pub returns : goal.returns
returns g c =
    let was = c.loop-handle.invariant in
    let logs = vec_items c.loop-handle.run.logs in
    let acted = vec_items c.loop-handle.run.acted in
    let ended : into_iter_len c.loop-handle.handle-iterator ≡ 0 = search rules in
    let many : vec_len c.loop-handle.run.logs ≡ length (declared_agents c.args._script.now) = search rules in
    let as_many : length logs ≡ length (declared_agents c.args._script.now) = search rules in
    let all : length acted ≡ length (declared_agents c.args._script.now) = search rules in
    runs_for c.args._script.now logs acted as_many all (λ k d e below. was.4 k d e (search rules))

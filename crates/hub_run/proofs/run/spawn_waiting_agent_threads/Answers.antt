use Rattle.std.specs.Prelude.{◌≡◌, ◌+◌, get_or, vec_items, vec_len}
use Rattle.std.proofs.Common.{rules, arith, below_more, ap, subst, sym, ◌∙◌}
use Rattle.std.specs.Vec.Iter.{into_iter_items}
use Rattle.hub_run.proofs.Gives.{AreGivenFrom, given_next}
use Rattle.hub_agent.specs.Given.{IsGiven}
use Rattle.hub_run.specs.Threads.{AgentThread}
use Rattle.hub_run.specs.declared.run.Part.{Part}
use Rattle.hub_run.proofs.run.spawn_waiting_agent_threads.Goals as goal

-- the agent that is next is given what is the next agent's
pub spawn_with-requires-clause-runs : goal.spawn_with-requires-clause-runs
spawn_with-requires-clause-runs g c κs within =
    let (given, rest) = given_next c.args.script.now (vec_len c.loop-agent.handles) c.in-Some.agent (into_iter_items c.loop-agent.agent-iterator) (into_iter_items c.next.new.self) c.in-Some.ensures.steps.0 c.loop-agent.invariant.3 in
    (search rules, subst (λ n. IsGiven c.args.script.now n c.in-Some.agent) (sym c.len-in-loop-agent.ensures) given)

-- the thread that is started is that of the next agent
pub loop-agent-preserved : goal.loop-agent-preserved
loop-agent-preserved g c =
    let was = c.loop-agent.invariant in
    let step = c.in-Some.ensures.steps in
    let done = vec_len c.loop-agent.handles in
    let new = vec_items c.push_or_drop.new.list in
    let grown : vec_len c.push_or_drop.new.list ≡ done + 1 = search rules in
    let promised = c.in_ok-handle.ensures.ok in
    let number_is : c.in_ok-handle.handle.promise.number.0 ≡ done = ap (λ (p : Part). p.number.0) promised ∙ grind rules in
    let script_is : c.in_ok-handle.handle.promise.script.now ≡ c.args.script.now = ap (λ (p : Part). p.script.now) promised in (
      search rules,
      (λ k d below. below_more (λ i. (get_or new i d).promise.number.0 ≡ i) done
          (λ i low. ap (λ (h : AgentThread). h.promise.number.0) (c.in_ok-push_or_drop.ensures.others i d low) ∙ was.1 i d low)
          (ap (λ (h : AgentThread). h.promise.number.0) (c.in_ok-push_or_drop.ensures.last d) ∙ number_is) k (omega arith)),
      (λ k d below. below_more (λ i. (get_or new i d).promise.script.now ≡ c.args.script.now) done
          (λ i low. ap (λ (h : AgentThread). h.promise.script.now) (c.in_ok-push_or_drop.ensures.others i d low) ∙ was.2 i d low)
          (ap (λ (h : AgentThread). h.promise.script.now) (c.in_ok-push_or_drop.ensures.last d) ∙ script_is) k (omega arith)),
      subst (λ n. AreGivenFrom c.args.script.now n (into_iter_items c.next.new.self)) (sym grown) (given_next c.args.script.now done c.in-Some.agent (into_iter_items c.loop-agent.agent-iterator) (into_iter_items c.next.new.self) step.0 was.3).1,
    )

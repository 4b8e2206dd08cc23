use Rattle.std.proofs.Common.{rules, ◌≡◌, ◌∙◌, ◌==◌, ◌<◌, length, true, false, get_or, ap, sym, subst, take, drop, suc, Bool}
use Rattle.hub_script.specs.Contents.{actions}
use Rattle.hub_agent.specs.Doing.{actions_of}
use Rattle.hub_agent.proofs.ActionByAction.{counted, did_other, did_own, of_error, other_taken, own_parts, own_taken, stopped}
use Rattle.hub_agent.proofs.actor.do_actions_until_ordered_to_stop.Goals.{then-eq+else-is_ordered_to_stop+in_ok-do_action, else-eq}
use Rattle.hub_agent.proofs.actor.do_actions_until_ordered_to_stop.Goals as goal

-- the item is the script's action at the index
pub returns-then-is_ordered_to_stop-clause-ok : goal.returns-then-is_ordered_to_stop-clause-ok
returns-then-is_ordered_to_stop-clause-ok g c =
    let agent = c.args.agent in let i = c.loop-at.at-index in let x = c.loop-at-item.result in let all = actions c.args.script.now in
    let below : i < length all = search rules in
    let is : x ≡ get_or all i x = search rules in
    let own : (x.at.0 == agent.0) ≡ true = search rules in
    stopped g.A.Actor.looks g.A.Actor.acts (actions_of agent all) (actions_of agent (take i all)) (actions_of agent (drop (suc i) all)) x.kind c.loop-at.done c.args.actor.now c.loop-at.actor c.is_ordered_to_stop.new.self
    (own_parts agent all i x below is own) c.loop-at.invariant.count c.loop-at.invariant.did (subst (λ (seen : Bool). g.A.Actor.looks c.loop-at.actor seen c.is_ordered_to_stop.new.self) c.if-is_ordered_to_stop.true c.is_ordered_to_stop.ensures)

pub returns-in_err-do_action-clause-err : goal.returns-in_err-do_action-clause-err
returns-in_err-do_action-clause-err g c =
    let agent = c.args.agent in let i = c.loop-at.at-index in let x = c.loop-at-item.result in let all = actions c.args.script.now in
    let below : i < length all = search rules in
    let is : x ≡ get_or all i x = search rules in
    let own : (x.at.0 == agent.0) ≡ true = search rules in
    of_error c.from_residual.result (
      actions_of agent (take i all),
      x.kind,
      actions_of agent (drop (suc i) all),
      own_parts agent all i x below is own,
      c.loop-at.actor,
      c.is_ordered_to_stop.new.self,
      c.loop-at.invariant.did,
      subst (λ (seen : Bool). g.A.Actor.looks c.loop-at.actor seen c.is_ordered_to_stop.new.self) c.if-is_ordered_to_stop.false c.is_ordered_to_stop.ensures,
      c.in_err-do_action.ensures.err,
    )

pub loop-at-preserved : goal.loop-at-preserved
loop-at-preserved g c =
    let agent = c.args.agent in let i = c.loop-at.at-index in let x = c.loop-at-item.result in let all = actions c.args.script.now in
    let below : i < length all = search rules in
    let is : x ≡ get_or all i x = search rules in
    let before = c.args.actor.now in
    elim c.if-eq.branch [
      | then-eq+else-is_ordered_to_stop+in_ok-do_action w ↦
          let own : (x.at.0 == agent.0) ≡ true = search rules in
          record {
            did = did_own g.A.Actor.looks g.A.Actor.acts agent all i x before c.loop-at.actor w.is_ordered_to_stop.new.self w.do_action.new.self c.if-eq.actor below is own w.actor-is c.loop-at.invariant.did
                (subst (λ (seen : Bool). g.A.Actor.looks c.loop-at.actor seen w.is_ordered_to_stop.new.self) w.if-is_ordered_to_stop.false w.is_ordered_to_stop.ensures) w.in_ok-do_action.ensures.ok;
            count = w.done-is ∙ counted (actions_of agent (take i all)) x.kind c.loop-at.done c.loop-at.invariant.count ∙ ap length (sym (own_taken agent all i x below is own));
            few = search rules;
          }
      | else-eq w ↦
          let other : (x.at.0 == agent.0) ≡ false = search rules in
          record {
            did = did_other g.A.Actor.looks g.A.Actor.acts agent all i x before c.loop-at.actor c.if-eq.actor below is other w.actor-is c.loop-at.invariant.did;
            count = w.done-is ∙ c.loop-at.invariant.count ∙ ap length (sym (other_taken agent all i x below is other));
            few = search rules;
          }
    ]

use Rattle.std.proofs.Common.{◌∙◌, ◌+◌, subst}
use Rattle.hub_envelope.specs.declared.envelope.Draft.{Draft}
use Rattle.hub_queue.specs.declared.stand.Tried.TheVariants.{Answered, Turned}
use Rattle.hub_queue.specs.Putting.{lent_draft}
use Rattle.hub_queue.specs.Standing.{StandSeat, FollowsStand}
use Rattle.hub_queue.specs.Trying.{IsTried, gone_to}
use Rattle.hub_queue.proofs.Hopping.{answered_there, gone_more, same_lent}
use Rattle.hub_queue.proofs.Hops.{went_there, hopped, held_by_none, told_hop, told_hop_alone, told_answered}
use Rattle.hub_queue.proofs.stand.Stand.post_at_later_queue.Goals as goal

pub returns-in-Answered-clause-posted : goal.returns-in-Answered-clause-posted
returns-in-Answered-clause-posted g c =
    let kept = c.loop-hop.invariant in
    let tried = subst (λ (s : StandSeat). IsTried s c.post_at_current_queue.new.self (lent_draft c.args.head c.loop-hop.body c.loop-hop.ports) (Answered c.in-Answered.answer)) c.move_to_next_queue.ensures c.in-Answered.ensures.tried in
    answered_there c.args.self.now c.loop-hop.self c.in-Some.next c.loop-hop._hop c.args.refusal c.loop-hop.found kept.gone c.loop-hop-test.true
    (subst (λ (s : StandSeat). FollowsStand s.name c.in-Some.next) c.self.view_is c.in-Some.ensures.next)
    c.post_at_current_queue.new.self (lent_draft c.args.head c.args.body.now c.args.ports.now) c.in-Answered.answer
    (subst (λ (d : Draft). IsTried (gone_to c.loop-hop.self c.in-Some.next) c.post_at_current_queue.new.self d (Answered c.in-Answered.answer)) (same_lent c.args.head kept.same_body kept.same_ports) tried)

pub returns-in-Answered-clause-yard : goal.returns-in-Answered-clause-yard
returns-in-Answered-clause-yard g c =
    let kept = c.loop-hop.invariant in
    let tried = subst (λ (s : StandSeat). IsTried s c.post_at_current_queue.new.self (lent_draft c.args.head c.loop-hop.body c.loop-hop.ports) (Answered c.in-Answered.answer)) c.move_to_next_queue.ensures c.in-Answered.ensures.tried in
    let of_lent = subst (λ (d : Draft). IsTried (gone_to c.loop-hop.self c.in-Some.next) c.post_at_current_queue.new.self d (Answered c.in-Answered.answer)) (same_lent c.args.head kept.same_body kept.same_ports) tried in
    let there = went_there _ _ _ c.args.self.now.name c.loop-hop.self _ c.in-Some.next c.post_at_current_queue.new.self c.loop-hop._hop kept.gone.name c.self.view_is c.in-Some.ensures.next kept.went c.in-Some.ensures.found c.in-Some.ensures.rest tried.0 in
    hopped _ _ c.args.self.now.name c.post_at_current_queue.new.self (c.loop-hop._hop + 1) _ there.1 there.0 (held_by_none _ _ c.post_at_current_queue.new.self _ _ _ _ of_lent.1)

pub returns-in-Answered-clause-told : goal.returns-in-Answered-clause-told
returns-in-Answered-clause-told g c =
    let kept = c.loop-hop.invariant in
    let tried = subst (λ (s : StandSeat). IsTried s c.post_at_current_queue.new.self (lent_draft c.args.head c.loop-hop.body c.loop-hop.ports) (Answered c.in-Answered.answer)) c.move_to_next_queue.ensures c.in-Answered.ensures.tried in
    let of_lent = subst (λ (d : Draft). IsTried (gone_to c.loop-hop.self c.in-Some.next) c.post_at_current_queue.new.self d (Answered c.in-Answered.answer)) (same_lent c.args.head kept.same_body kept.same_ports) tried in
    let there = went_there _ _ _ c.args.self.now.name c.loop-hop.self _ c.in-Some.next c.post_at_current_queue.new.self c.loop-hop._hop kept.gone.name c.self.view_is c.in-Some.ensures.next kept.went c.in-Some.ensures.found c.in-Some.ensures.rest tried.0 in
    told_answered _ _ c.args.self.now.name c.post_at_current_queue.new.self.name (c.loop-hop._hop + 1) _ _ _ _ there.1 of_lent.1 (told_hop _ _ _ _ c.loop-hop._hop _ kept.told c.tell_done.ensures c.in-Answered.ensures.told)

pub loop-hop-preserved : goal.loop-hop-preserved
loop-hop-preserved g c =
    let kept = c.loop-hop.invariant in
    let tried = subst (λ (s : StandSeat). IsTried s c.post_at_current_queue.new.self (lent_draft c.args.head c.loop-hop.body c.loop-hop.ports) (Turned c.in-Turned.refusal)) c.move_to_next_queue.ensures c.in-Turned.ensures.tried in
    let there = went_there _ _ _ c.args.self.now.name c.loop-hop.self _ c.in-Some.next c.post_at_current_queue.new.self c.loop-hop._hop kept.gone.name c.self.view_is c.in-Some.ensures.next kept.went c.in-Some.ensures.found c.in-Some.ensures.rest tried.0 in
    record {
      gone = gone_more c.args.self.now c.loop-hop.self c.in-Some.next c.loop-hop._hop c.args.refusal c.loop-hop.found kept.gone c.loop-hop-test.true
          (subst (λ (s : StandSeat). FollowsStand s.name c.in-Some.next) c.self.view_is c.in-Some.ensures.next)
          c.post_at_current_queue.new.self (lent_draft c.args.head c.loop-hop.body c.loop-hop.ports) c.in-Turned.refusal tried;
      same_body = c.in-Turned.ensures.left.0 ∙ kept.same_body;
      same_ports = c.in-Turned.ensures.left.1 ∙ kept.same_ports;
      went = there.0;
      told = told_hop_alone _ _ _ _ c.loop-hop._hop kept.told c.tell_done.ensures c.in-Turned.ensures.told;
    }

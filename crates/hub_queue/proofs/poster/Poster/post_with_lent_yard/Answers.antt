use Rattle.std.proofs.Common.{subst}
use Rattle.hub_envelope.specs.declared.envelope.Draft.{Draft}
use Rattle.hub_queue.specs.Posting.{IsPosted}
use Rattle.hub_queue.specs.Putting.{answer_back, lent_draft}
use Rattle.hub_queue.specs.Rings.{HasRung, RingsOnward}
use Rattle.hub_queue.specs.Standing.{StandSeat}
use Rattle.hub_queue.specs.Trying.{IsPostedOnward}
use Rattle.hub_queue.proofs.Hopping.{is_answered, is_posted, rung_onward, same_lent}
use Rattle.hub_queue.proofs.poster.Poster.post_with_lent_yard.Goals as goal

pub returns-in-Answered-clause-posted : goal.returns-in-Answered-clause-posted
returns-in-Answered-clause-posted g c =
    let tried = c.in-Answered.ensures.tried in
    let draft = lent_draft c.args.head c.args.body.now c.args.ports.now in
    let answer = answer_back c.in-Answered.answer draft in
    subst (λ (s : StandSeat). IsPosted s c.post_at_current_queue.new.self draft answer) c.self.view_is (is_answered c.self.inside.stand c.post_at_current_queue.new.self draft answer tried.0 tried.1)

pub returns-in-Turned-clause-posted : goal.returns-in-Turned-clause-posted
returns-in-Turned-clause-posted g c =
    let draft = lent_draft c.args.head c.args.body.now c.args.ports.now in
    let answer = answer_back c.post_at_later_queue.result draft in
    let turned = c.in-Turned.ensures in
    let onward = subst (λ (d : Draft). IsPostedOnward c.post_at_current_queue.new.self c.post_at_later_queue.new.self c.in-Turned.refusal d (answer_back c.post_at_later_queue.result d)) (same_lent c.args.head turned.left.0 turned.left.1) c.post_at_later_queue.ensures.posted in
    subst (λ (s : StandSeat). IsPosted s c.post_at_later_queue.new.self draft answer) c.self.view_is (is_posted c.self.inside.stand c.post_at_current_queue.new.self draft c.in-Turned.refusal turned.tried c.post_at_later_queue.new.self answer onward)

pub returns-in-Turned-clause-rung : goal.returns-in-Turned-clause-rung
returns-in-Turned-clause-rung g c =
    let draft = lent_draft c.args.head c.args.body.now c.args.ports.now in
    let answer = answer_back c.post_at_later_queue.result draft in
    let turned = c.in-Turned.ensures in
    let same = same_lent c.args.head turned.left.0 turned.left.1 in
    let onward = subst (λ (d : Draft). IsPostedOnward c.post_at_current_queue.new.self c.post_at_later_queue.new.self c.in-Turned.refusal d (answer_back c.post_at_later_queue.result d)) same c.post_at_later_queue.ensures.posted in
    let rung = subst (λ (d : Draft). RingsOnward c.post_at_later_queue.new.self (answer_back c.post_at_later_queue.result d)) same c.post_at_later_queue.ensures.rung in
    subst (λ (s : StandSeat). HasRung s c.post_at_later_queue.new.self answer) c.self.view_is (rung_onward c.self.inside.stand c.post_at_current_queue.new.self draft c.in-Turned.refusal turned.tried c.post_at_later_queue.new.self answer onward rung)

use Rattle.std.proofs.Common.{arith, ap, subst, sym, ◌∙◌, ◌+◌, ◌≡◌, ◌<◌, All, length, vec_len, vec_capacity, true, false}
use Rattle.std.specs.Option.{option_to_list}
use Rattle.std.proofs.lemmas.List.{set-get_or}
use Rattle.hub_broadcast.specs.Casting.{IsDelivered, cast_draft}
use Rattle.hub_broadcast.specs.Destinations.{is_destination}
use Rattle.hub_broadcast.proofs.Casts.{last_draft, left_behind, left_beside, passed_step, posted_step}
use Rattle.hub_broadcast.proofs.casting.cast_to_destinations.Goals as goal
use Rattle.hub_broadcast.proofs.casting.cast_to_destinations.Goals.{then-is_destination, else-is_destination}

pub loop-subscription-preserved : goal.loop-subscription-preserved
loop-subscription-preserved g c =
    let kept = c.loop-subscription.invariant in
    let low : c.loop-subscription.subscription-index < length c.loop-subscription.subscriptions = omega arith in
    elim c.if-is_destination.branch [
      | then-is_destination w ↦
          let last = last_draft _ _ _ _ _ w.pop.ensures.items w.unwrap-draft.ensures kept.same in
          let goes : is_destination c.args.source.now c.subscription-item.result ≡ true = ap (is_destination c.args.source.now) c.subscription-item.is ∙ sym c.is_destination.ensures ∙ w.if-is_destination.true in
          let delivered : IsDelivered c.subscription-item.result w.post_draft_to_member-outcome.new.self w.unwrap-draft.result w.post_draft_to_member-outcome.result = subst (λ r. IsDelivered r w.post_draft_to_member-outcome.new.self w.unwrap-draft.result w.post_draft_to_member-outcome.result) (sym c.subscription-item.is) w.post_draft_to_member-outcome.ensures in
          let one = ap (λ o. length (option_to_list o)) w.unwrap-draft.ensures in
          let drafts_len = ap (λ v. vec_len v) w.drafts-is in
          let fewer : vec_len c.if-is_destination.drafts + 1 ≡ vec_len c.loop-subscription.drafts = omega (arith, w.pop.ensures.len, one, drafts_len) in
          let told_len = ap (λ v. vec_len v) w.outcomes-is in
          let told_room = ap (λ v. vec_capacity v) w.outcomes-is in
          record {
            so_far = posted_step _ _ _ _ _ _ _ low c.subscription-item.is _ _ _ _ _ _ kept.so_far goes last.1 delivered (w.id-end.ensures ∙ ap (λ r. r.poster.name.end) (sym c.subscription-item.is)) w.subscriptions-is (ap (λ v. v.items) w.outcomes-is ∙ w.push_reserved.ensures.items);
            same = subst (λ v. All (λ draft. draft ≡ cast_draft c.args.source.now c.args.body.now) v.items) (sym w.drafts-is) last.0;
            left = left_behind c.args.source.now (cast_draft c.args.source.now c.args.body.now) c.args.subscriptions.now _ _ _ _ low c.subscription-item.is _ _ _ kept.left fewer goes w.subscriptions-is;
            room = omega (arith, kept.room, fewer, told_len, told_room, w.push_reserved.ensures.len, w.push_reserved.ensures.capacity);
          }
      | else-is_destination w ↦
          let goes : is_destination c.args.source.now c.subscription-item.result ≡ false = ap (is_destination c.args.source.now) c.subscription-item.is ∙ sym c.is_destination.ensures ∙ w.if-is_destination.false in
          let beside : c.if-is_destination.subscriptions ≡ c.loop-subscription.subscriptions = w.subscriptions-is ∙ set-get_or c.loop-subscription.subscriptions c.loop-subscription.subscription-index c.subscription-item.result in
          let drafts_len = ap (λ v. vec_len v) w.drafts-is in
          let told_len = ap (λ v. vec_len v) w.outcomes-is in
          let told_room = ap (λ v. vec_capacity v) w.outcomes-is in
          record {
            so_far = passed_step _ _ _ _ _ _ _ low c.subscription-item.is _ _ kept.so_far goes beside (ap (λ v. v.items) w.outcomes-is);
            same = subst (λ v. All (λ draft. draft ≡ cast_draft c.args.source.now c.args.body.now) v.items) (sym w.drafts-is) kept.same;
            left = drafts_len ∙ left_beside c.args.source.now (cast_draft c.args.source.now c.args.body.now) c.args.subscriptions.now _ _ _ _ low c.subscription-item.is _ kept.left goes beside;
            room = omega (arith, kept.room, drafts_len, told_len, told_room);
          }
    ]

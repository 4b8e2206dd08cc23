use Rattle.std.proofs.Common.{◌≡◌, ◌+◌, ◌≤◌, All, count_by, drop, vec_len, vec_capacity}
use Rattle.hub_broadcast.specs.Casting.{cast_draft}
use Rattle.hub_broadcast.specs.Destinations.{is_destination}
use Rattle.hub_broadcast.proofs.Casts.{IsBroadcastSoFar}
use Rattle.hub_broadcast.proofs.casting.cast_to_destinations.Given as goal

abbrev pub invariant-loop-subscription : goal.invariant-loop-subscription
invariant-loop-subscription g l = record {
  so_far : IsBroadcastSoFar l.source (cast_draft l.source l.body) l.fn.subscriptions l.subscriptions l.subscription-index l.outcomes.items;
  same : All (λ draft. draft ≡ cast_draft l.source l.body) l.drafts.items;
  left : vec_len l.drafts ≡ count_by (is_destination l.source) (drop l.subscription-index l.subscriptions);
  room : vec_len l.outcomes + vec_len l.drafts ≤ vec_capacity l.outcomes;
}

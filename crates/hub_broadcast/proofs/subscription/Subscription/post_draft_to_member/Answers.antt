use Rattle.hub_broadcast.proofs.Naming.{posted_named}
use Rattle.hub_broadcast.proofs.subscription.Subscription.post_draft_to_member.Goals as goal

pub invariant_of-self : goal.invariant_of-self
invariant_of-self g c = posted_named _ _ _ _ c.post.ensures.posted c.self.invariant

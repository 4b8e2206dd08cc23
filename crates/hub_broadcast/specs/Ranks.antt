-- The order of a roster by the numbers of its ends, which rise where all members were made with one count of ends.
use Rattle.std.specs.Prelude.{ℕ, ◌+◌, filter, List, map, not}
use Rattle.hub_envelope.specs.declared.envelope.Draft.{Draft}
use Rattle.hub_envelope.specs.declared.ids.AgentId.{AgentId}
use Rattle.hub_envelope.specs.declared.ids.EndId.{EndId}
use Rattle.hub_broadcast.specs.declared.casting.CastOutcome.{CastOutcome}
use Rattle.hub_broadcast.specs.Casting.{IsBroadcast}
use Rattle.hub_broadcast.specs.Destinations.{destinations_in, is_of_end}
use Rattle.hub_broadcast.specs.Joining.{IsJoined}
use Rattle.hub_broadcast.specs.Members.{MemberSeat, SubscriptionSeat}
use Rattle.hub_broadcast.specs.Rising.{IsRising, RiseBetween}

-- A roster whose ends rise stays so. The order in which the members joined is then that of their numbers, and no end is a destination twice.
pub record KeepsOrder : Type 0 where
  pub join : (drawn : ℕ) (agent : AgentId) (origin name : List ℕ) (old new : List SubscriptionSeat) (m : MemberSeat) → IsJoined drawn agent origin name old new m → IsRising drawn old → IsRising (drawn + 1) new
  pub leave : (drawn : ℕ) (end : EndId) (old : List SubscriptionSeat) → IsRising drawn old → IsRising drawn (filter (λ s. not (is_of_end end s)) old)
  pub cast : (drawn : ℕ) (source : MemberSeat) (draft : Draft) (old new : List SubscriptionSeat) (outcomes : List (EndId × CastOutcome)) → IsBroadcast source draft old new outcomes → IsRising drawn old → IsRising drawn new
  pub destinations_rise : (drawn : ℕ) (source : MemberSeat) (roster : List SubscriptionSeat) → IsRising drawn roster → RiseBetween 0 drawn (map (λ e. e.0) (destinations_in source roster))

-- What a join comes to.
use Rattle.std.specs.Prelude.{◌≡◌, ℕ, [], ◌∷◌, ◌++◌, List}
use Rattle.hub_envelope.specs.declared.ids.AgentId.{AgentId}
use Rattle.hub_queue.specs.Mailboxes.{IsOpenMailbox}
use Rattle.hub_queue.specs.Standing.{StandSeat}
use Rattle.hub_queue.specs.Taking.{TakerSeat, started}
use Rattle.hub_broadcast.specs.Members.{MemberSeat, SubscriptionSeat}

-- The member of a new end of this number, which has one line and is enabled, and the poster of that line.
module _ (number : ℕ) (agent : AgentId) (origin name : List ℕ) where
  pub record IsNewMember (m : MemberSeat) : Type 0 where
    pub opened : TakerSeat
    pub poster : StandSeat
    pub mailbox : IsOpenMailbox (record { 0 = number }) 1 opened (poster ∷ [])
    pub member : m ≡ record { taker = started opened; agent = agent; origin = origin; name = name }

  -- the member is new, and the roster has its poster behind all others
  pub record IsJoined (old new : List SubscriptionSeat) (m : MemberSeat) : Type 0 where
    pub is_new : IsNewMember m
    pub roster : new ≡ old ++ record { origin = origin; name = name; poster = is_new.poster } ∷ []

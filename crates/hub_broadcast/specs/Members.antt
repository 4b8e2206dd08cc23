-- A member of a broadcast channel, as its agent has it and as the roster has it.
use Rattle.std.specs.Prelude.{ℕ, List}
use Rattle.hub_envelope.specs.declared.ids.AgentId.{AgentId}
use Rattle.hub_queue.specs.Standing.{StandSeat}
use Rattle.hub_queue.specs.Taking.{TakerSeat}

-- what its agent has: the end from which it takes, the agent, the origin and the name
pub record MemberSeat : Type 0 where
  pub taker : TakerSeat
  pub agent : AgentId
  pub origin : List ℕ
  pub name : List ℕ

-- what the roster has: the origin and the name, and where the line stands by which others post there
pub record SubscriptionSeat : Type 0 where
  pub origin : List ℕ
  pub name : List ℕ
  pub poster : StandSeat

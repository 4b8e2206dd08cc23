-- The seats of the agents of a run at the words of each other's orders.
use Rattle.std.specs.Prelude.{◌≡◌, ◌<◌, ℕ, List, [], ◌∷◌, ◌++◌, All, get_or, length, map}
use Rattle.hub_life.specs.OrderSeat.{OrderSeat, new_seat}
use Rattle.hub_agent.specs.declared.shared.Peer.{Peer}
use Rattle.hub_agent.specs.declared.opening.Seat.{Seat}
use Rattle.hub_agent.specs.Agents.{AgentState}

-- the seats at the orders of agents, by number
abbrev pub orders_of : List Peer → List OrderSeat
orders_of peers = map (λ peer. peer.order) peers

-- one more peer, with this seat at its order
abbrev pub GetsPeer : OrderSeat → Seat → Seat → Type 0
GetsPeer order old new = (new ≡ record old { peers = new.peers }) × (orders_of new.peers.items ≡ orders_of old.peers.items ++ order ∷ [])

abbrev pub AllGet : OrderSeat → List Seat → List Seat → Type 0
AllGet order old new = (length new ≡ length old) × ((k : ℕ) (d : Seat) → k < length old → GetsPeer order (get_or old k d) (get_or new k d))

-- what the agent of this number is made of: two seats at one word, at which nothing was done, and no peers yet
pub record IsNewSeat (number : ℕ) (s : Seat) : Type 0 where
  pub number_is : s.number.0 ≡ number
  pub for_agent : s.for_agent ≡ new_seat s.for_agent.word
  pub for_loop : s.for_loop ≡ s.for_agent
  pub peers : s.peers.items ≡ []

-- the same, with these seats at the orders of its peers
pub record IsOrderSeatOf (orders : List OrderSeat) (number : ℕ) (s : Seat) : Type 0 where
  pub number_is : s.number.0 ≡ number
  pub for_agent : s.for_agent ≡ new_seat s.for_agent.word
  pub for_loop : s.for_loop ≡ s.for_agent
  pub peers : orders_of s.peers.items ≡ orders

-- the seats of agents 0, 1, .., each of which has a seat at the order of each agent, by number
abbrev pub AreSeated : List Seat → Type 0
AreSeated all = (k : ℕ) (d : Seat) → k < length all → IsOrderSeatOf (map (λ s. s.for_agent) all) k (get_or all k d)

-- The agent has a seat of its own at its word, and of each of these agents, by number, a seat at that agent's word. At none was
-- anything done yet.
pub record IsSeated (all : List AgentState) (a : AgentState) : Type 0 where
  pub order : a.order ≡ new_seat a.order.word
  pub peers : orders_of a.peers ≡ map (λ other. other.order) all

abbrev pub AreAllSeated : List AgentState → Type 0
AreAllSeated all = All (IsSeated all) all

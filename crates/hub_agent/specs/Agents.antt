-- An agent of a run, as its own calls see it, and what an action changes of it beside its log.
use Rattle.std.specs.Prelude.{◌≡◌, ◌⊎◌, ◌+◌, ℕ, Bool, true, List, Option, Some, None, option_map, slice_get, slice_set}
use Rattle.slab.specs.Slab.{Slab}
use Rattle.hub_broadcast.specs.Members.{MemberSeat, SubscriptionSeat}
use Rattle.hub_envelope.specs.declared.ids.EndId.{EndId}
use Rattle.hub_life.specs.Course.{after}
use Rattle.hub_life.specs.Lifecycle.{Progress}
use Rattle.hub_life.specs.OrderSeat.{OrderSeat, knows}
use Rattle.hub_logging.specs.Notes.{Notes}
use Rattle.hub_loop.specs.declared.held.Held.{Held}
use Rattle.hub_loop.specs.declared.held.Held.TheVariants.{Port, Member}
use Rattle.hub_loop.specs.Adopting.{HoldsMore}
use Rattle.hub_loop.specs.Closing.{left_by}
use Rattle.hub_loop.specs.Holding.{end_held}
use Rattle.hub_loop.specs.Looking.{Holds, HoldsNoEnd, HoldsNoMember, HoldsNoPort}
use Rattle.hub_loop.specs.Starting.{StartsClient, StartsPort}
use Rattle.hub_loop.specs.States.{DeliveryState}
use Rattle.hub_ports.specs.Seats.{PortSeat, end_of}
use Rattle.hub_agent.specs.Casting.{HasCast}
use Rattle.hub_agent.specs.declared.shared.Peer.{Peer}
use Rattle.hub_loop.specs.declared.posting.Way.TheVariants as way
use Rattle.hub_agent.specs.Posting.{PostsOver, SendsTo}
use Rattle.hub_script.specs.declared.action.ActionKind.{ActionKind}
use Rattle.hub_script.specs.declared.action.ActionKind.TheVariants.{Post, Send, Cast, Start, Loaded, Close, Order, Event, Hand}

-- its notes, the ends and lines that its loop holds, the delivery that it kept for want of memory, its seat at the word of its order,
-- what it has of all agents by number, the life of a worker, and the roster over which it casts, where that is shown
pub record AgentState : Type 0 where
  pub notes : Notes
  pub ends : Slab Held
  pub kept : Option DeliveryState
  pub order : OrderSeat
  pub peers : List Peer
  pub life : Option Progress
  pub roster : Option (List SubscriptionSeat)

-- the agent is woken
abbrev pub woken : Peer → Peer
woken peer = record peer { bell = record peer.bell { at = record peer.bell.at { wakes = peer.bell.at.wakes + 1 } } }

-- the agent is given the order to end, and woken
abbrev pub peer_ordered : Peer → Peer
peer_ordered peer = woken (record peer { order = record peer.order { gives = peer.order.gives + 1 } })

-- the agents with that one changed, if there is one of that number
abbrev pub with_found : (Peer → Peer) → ℕ → List Peer → Option Peer → List Peer
with_found change number peers None = peers
with_found change number peers (Some peer) = slice_set peers number (change peer)

abbrev pub with_peer : (Peer → Peer) → ℕ → List Peer → List Peer
with_peer change number peers = with_found change number peers (slice_get peers number)

-- Nothing but its notes and what its loop holds has changed.
abbrev pub KeepsElse : AgentState → AgentState → Type 0
KeepsElse before now = now ≡ record before { notes = now.notes; ends = now.ends }

-- Nothing has changed but its notes, what its loop holds and a delivery that it kept.
abbrev pub KeepsButTurns : AgentState → AgentState → Type 0
KeepsButTurns before now = now ≡ record before { notes = now.notes; ends = now.ends; kept = now.kept }

-- Nothing but its notes has changed.
abbrev pub KeepsButNotes : AgentState → AgentState → Type 0
KeepsButNotes before now = now ≡ record before { notes = now.notes }

-- Nothing has changed but its notes and the roster over which it casts.
abbrev pub KeepsButCasts : AgentState → AgentState → Type 0
KeepsButCasts before now = now ≡ record before { notes = now.notes; roster = now.roster }

-- Nothing has changed but its notes, what its loop holds and the roster.
abbrev pub KeepsButClosings : AgentState → AgentState → Type 0
KeepsButClosings before now = now ≡ record before { notes = now.notes; ends = now.ends; roster = now.roster }

-- Nothing but what its loop holds has changed.
abbrev pub KeepsButEnds : AgentState → AgentState → Type 0
KeepsButEnds before now = now ≡ record before { ends = now.ends }

-- its loop holds the port of this number
abbrev pub HoldsPortInLoop : AgentState → EndId → Type 0
HoldsPortInLoop a end = (port : PortSeat) × Holds a.ends (Port port) × (end_of port ≡ end)

-- Its member of this number has cast the body, which is written; where it holds no such member nothing has changed.
abbrev pub CastsFrom : EndId → List ℕ → AgentState → AgentState → Type 0
CastsFrom end body before now =
    (HoldsNoMember before.ends end × (now ≡ before))
    ⊎ ((member : MemberSeat) × Holds before.ends (Member member) × (member.taker.end ≡ end.0)
    × HasCast before.roster now.roster member body before.notes now.notes)

-- The port of this number was started, or else the client's queue of this number; where neither is held nothing has changed.
abbrev pub StartsEnd : EndId → AgentState → AgentState → Type 0
StartsEnd end before now =
    KeepsButEnds before now
    × (StartsPort before.ends now.ends end true
    ⊎ (HoldsNoPort before.ends end × ((is_held : Bool) × StartsClient before.ends now.ends end is_held)))

-- the client's queue of this number was started, where it is held
abbrev pub StartsClientQueue : EndId → AgentState → AgentState → Type 0
StartsClientQueue queue before now = KeepsButEnds before now × ((is_held : Bool) × StartsClient before.ends now.ends queue is_held)

-- The end of this number is held no more, and a member has left the roster; where it wasn't held nothing was written, and nothing has changed.
abbrev pub ClosesOwn : EndId → AgentState → AgentState → Type 0
ClosesOwn end before now =
    (HoldsNoEnd before.ends end × (now ≡ before))
    ⊎ ((held : Held) × (end_held held ≡ Some end) × HoldsMore now.ends before.ends held × (now.roster ≡ left_by held before.roster))

-- a look for the order to end at the agent's own seat, which gave this answer
abbrev pub LooksFor : AgentState → Bool → AgentState → Type 0
LooksFor before seen now =
    (seen ≡ knows now.order) × (now ≡ record before { order = record before.order { looks = before.order.looks + 1; found = seen } })

-- What an action changes of the agent beside its log, and what it does at the ends that the loop holds. A post or a send posts over the
-- port or the line that it names, and its answer is written; a cast is one over the roster, from the member that it names. A start or a
-- loaded enables what it names, a close takes out the end that it names. An order goes to the agent that it names, an event to the
-- agent's own life, and a hand wakes the agent that it names where the queue was handed.
abbrev pub Changes : ActionKind → AgentState → AgentState → Type 0
Changes (Post port body transfer) before now =
    KeepsElse before now × PostsOver (way.Port port) transfer body before.ends now.ends before.notes now.notes
Changes (Send queue body transfer) before now =
    KeepsElse before now × SendsTo queue transfer body before.ends now.ends before.notes now.notes
Changes (Cast member body) before now = KeepsButCasts before now × CastsFrom member body before now
Changes (Start end) before now = StartsEnd end before now
Changes (Loaded queue) before now = StartsClientQueue queue before now
Changes (Close end) before now = KeepsButClosings before now × ClosesOwn end before now
Changes (Order to) before now = now ≡ record before { peers = with_peer peer_ordered to.0 before.peers }
Changes (Event event) before now = now ≡ record before { life = option_map (λ p. after p event) before.life }
Changes (Hand to) before now =
    KeepsButEnds before now ⊎ (now ≡ record before { ends = now.ends; peers = with_peer woken to.0 before.peers })
Changes action before now = KeepsButTurns before now

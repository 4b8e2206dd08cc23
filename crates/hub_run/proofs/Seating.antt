-- Agents of seats, one after the other.
use Rattle.std.proofs.Common.{ℕ, ◌≡◌, ◌∙◌, ◌<◌, List, [], ◌∷◌, ◌++◌, get_or, length, map, ap, sym, refl, arith}
use Rattle.std.proofs.lemmas.List.{append-nil, append_assoc, get_or-map, length-map, map-append}
use Rattle.hub_life.specs.OrderSeat.{OrderSeat, new_seat}
use Rattle.hub_envelope.specs.declared.ids.EndId.{EndId}
use Rattle.hub_run.specs.Giving.{Gives}
use Rattle.hub_run.specs.Seats.{AreAllSeated, AreSeated, orders_of}
use Rattle.hub_agent.specs.Agents.{AgentState}
use Rattle.hub_agent.specs.declared.shared.Peer.{Peer}
use Rattle.hub_run.proofs.Peers.{map_as, some_of}
use Rattle.hub_agent.specs.declared.opening.Seat.{Seat}

abbrev pub its_seat : AgentState → OrderSeat × List Peer
its_seat a = (a.order, a.peers)

abbrev pub seat_for : Seat → OrderSeat × List Peer
seat_for s = (s.for_agent, s.peers.items)

-- These seats are those of the agents, and then those that are left.
abbrev pub AreOpened : List AgentState → List Seat → List Seat → Type 0
AreOpened agents left seats = map its_seat agents ++ map seat_for left ≡ map seat_for seats

pub opened_more : (agents new : List AgentState) (a : AgentState) (s : Seat) (left rest seats : List Seat) → new ≡ agents ++ a ∷ [] → left ≡ s ∷ rest → a.order ≡ s.for_agent → a.peers ≡ s.peers.items → AreOpened agents left seats → AreOpened new rest seats
opened_more agents new a s left rest seats push first order peers opened =
    let one : ◌≡◌ {A = OrderSeat × List Peer} (its_seat a) (seat_for s) = ap (λ (o : OrderSeat). (o, a.peers)) order ∙ ap (λ (ps : List Peer). (s.for_agent, ps)) peers in
    ap (λ (xs : List AgentState). map its_seat xs ++ map seat_for rest) push ∙ ap (λ l. l ++ map seat_for rest) (map-append its_seat agents (a ∷ [])) ∙ append_assoc (map its_seat agents) (its_seat a ∷ []) (map seat_for rest)
    ∙ ap (λ x. map its_seat agents ++ x ∷ map seat_for rest) one ∙ ap (λ l. map its_seat agents ++ map seat_for l) (sym first) ∙ opened

pub opened_all : (agents : List AgentState) (left seats : List Seat) → length left ≡ 0 → AreOpened agents left seats → map its_seat agents ≡ map seat_for seats
opened_all agents [] seats none opened = sym (append-nil (map its_seat agents)) ∙ opened
opened_all agents (s ∷ left) seats none opened = absurd (omega (arith, none))

map_twice : {X Y Z : Type 0} (f : X → Y) (g : Y → Z) (xs : List X) → map g (map f xs) ≡ map (λ x. g (f x)) xs
map_twice f g [] = refl
map_twice f g (x ∷ xs) = ap (λ l. g (f x) ∷ l) (map_twice f g xs)

-- the agents of seats that are at each other's words
pub agents_seated : (agents : List AgentState) (seats : List Seat) → AreSeated seats → map its_seat agents ≡ map seat_for seats → AreAllSeated agents
agents_seated agents seats seated is = λ k d below.
    let many = ap length is in
    let as_many = length-map agents its_seat in
    let also = length-map seats seat_for in
    let there : k < length seats = omega (arith, below, many, as_many, also) in
    let s = some_of seats k there in
    let at : its_seat (get_or agents k d) ≡ seat_for (get_or seats k s) = sym (get_or-map its_seat agents k d (its_seat d) below) ∙ ap (λ l. get_or l k (its_seat d)) is ∙ get_or-map seat_for seats k s (its_seat d) there in
    let order : (get_or agents k d).order ≡ (get_or seats k s).for_agent = ap (λ (p : OrderSeat × List Peer). p.0) at in
    let peers : (get_or agents k d).peers ≡ (get_or seats k s).peers.items = ap (λ (p : OrderSeat × List Peer). p.1) at in
    record {
      order = order ∙ (seated k s there).for_agent ∙ ap (λ (o : OrderSeat). new_seat o.word) (sym order);
      peers = ap orders_of peers ∙ (seated k s there).peers ∙ sym (map_twice seat_for (λ (p : OrderSeat × List Peer). p.0) seats)
          ∙ ap (map (λ (p : OrderSeat × List Peer). p.0)) (sym is) ∙ map_twice its_seat (λ (p : OrderSeat × List Peer). p.0) agents;
    }

-- An agent that is given ends keeps its seats.
pub seated_given : (ends : ℕ → List EndId) (old new : List AgentState) → Gives ends old new → AreAllSeated old → AreAllSeated new
seated_given ends old new (count, given) seated = λ k d below.
    let there : k < length old = omega (arith, count, below) in
    let kept = (given k d there).0 in
    let order : (get_or new k d).order ≡ (get_or old k d).order = ap (λ (a : AgentState). a.order) kept in
    let peers : (get_or new k d).peers ≡ (get_or old k d).peers = ap (λ (a : AgentState). a.peers) kept in
    record {
      order = order ∙ (seated k d there).order ∙ ap (λ (o : OrderSeat). new_seat o.word) (sym order);
      peers = ap orders_of peers ∙ (seated k d there).peers
          ∙ map_as (λ (a : AgentState). a.order) (λ (a : AgentState). a.order) old new (sym count) (λ j e low. sym (ap (λ (a : AgentState). a.order) (given j e low).0));
    }

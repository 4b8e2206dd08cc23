use Rattle.std.proofs.Common.{All, ◌≡◌, ◌∙◌, ◌<◌, ◌+◌, List, length, vec_len, get_or, ap, sym, subst, rules, arith, ◌∷◌, [], ◌++◌}
use Rattle.std.specs.Vec.Iter.{into_iter_items}
use Rattle.std.proofs.lemmas.List.{with_items_is}
use Rattle.hub_run.specs.Seats.{AllGet, IsNewSeat}
use Rattle.hub_life.specs.OrderSeat.{OrderSeat}
use Rattle.hub_agent.specs.declared.opening.Seat.{Seat}
use Rattle.hub_run.proofs.Peers.{HavePeers, Pairs, all_seated, no_peers, pairs_first, placed_more, pairs_more, pairs_rest, peers_more, some_of}
use Rattle.hub_run.proofs.making.Seats.make_for_all_agents.Goals as goal

pub loop-number-preserved : goal.loop-number-preserved
loop-number-preserved c =
    let was = c.loop-number.invariant in
    let n = c.loop-number.number in
    let seats = c.push_or_drop.new.list.items in
    let grown : vec_len c.push_or_drop.new.list ≡ n + 1 = search rules in
    let more : vec_len c.push_or_drop-in-loop-number.new.list ≡ n + 1 = search rules in
    let push : seats ≡ c.loop-number.seats.items ++ c.in_ok-seat.seat ∷ [] = c.in_ok-push_or_drop.ensures.items in
    let word : c.push_or_drop-in-loop-number.new.list.items ≡ c.loop-number.words.items ++ _ ∷ [] = c.in_ok-push_or_drop-2.ensures.items in
    let seat_is : IsNewSeat n c.in_ok-seat.seat = search rules in
    let len : length c.loop-number.seats.items ≡ n = search rules in
    record {
      seats = grown;
      words = more;
      new = placed_more IsNewSeat c.loop-number.seats.items seats c.in_ok-seat.seat push was.new (subst (λ m. IsNewSeat m c.in_ok-seat.seat) (sym len) seat_is);
      are = pairs_more (λ s w. All (λ (o : OrderSeat). o ≡ s.for_agent) w.0.items) c.loop-number.seats.items seats c.loop-number.words.items c.push_or_drop-in-loop-number.new.list.items c.in_ok-seat.seat _ push word (search rules) was.are c.in_ok-seat.ensures.orders;
    }

pub loop-orders-init : goal.loop-orders-init
loop-orders-init c =
    let was = c.loop-number.invariant in
    let opened = c.loop-number.seats.items in
    let all : into_iter_items c.into_iter-orders-iterator.result ≡ c.loop-number.words.items = search rules in
    record {
      count = search rules;
      new = was.new;
      now = (0, search rules, subst (Pairs (λ s w. All (λ (o : OrderSeat). o ≡ s.for_agent) w.0.items) 0 opened) (sym all) was.are, no_peers opened was.new);
    }

pub loop-orders-preserved : goal.loop-orders-preserved
loop-orders-preserved c =
    let was = c.loop-orders.invariant in
    let opened = c.loop-number.seats.items in
    let rest = into_iter_items c.loop-orders.orders-iterator in
    let (done, all, pairs, had) = was.now in
    let step = c.in-Some.ensures.steps in
    let left = into_iter_items c.next.new.self in
    let grown = ap length step.0 in
    let inside : done < length opened = omega (arith, all, grown) in
    let d = some_of opened done inside in
    let s = get_or opened done d in
    let orders = pairs_first (λ s w. All (λ (o : OrderSeat). o ≡ s.for_agent) w.0.items) done opened rest left (c.in-Some.orders, c.in-Some.bell) step.0 pairs d in
    let now = c.loop-orders.seats in
    let new = c.add_peer_agent_to_every_seat.new.seats in
    let got : AllGet s.for_agent now.items new = subst (λ (l : List Seat). AllGet s.for_agent l new) c.deref_mut.ensures.value (c.in_ok-add_peer_agent_to_every_seat.ensures s.for_agent orders) in
    let written = with_items_is now new (got.0 ∙ search rules) in
    record {
      count = was.count;
      new = was.new;
      now = (
        done + 1,
        omega (arith, all, grown),
        pairs_rest (λ s w. All (λ (o : OrderSeat). o ≡ s.for_agent) w.0.items) done opened rest left (c.in-Some.orders, c.in-Some.bell) step.0 pairs,
        subst (HavePeers (done + 1) opened) (sym written) (peers_more done opened now.items new d had inside got),
      );
    }

pub returns-clause-seated : goal.returns-clause-seated
returns-clause-seated c =
    let was = c.loop-orders.invariant in
    let (done, all, pairs, had) = was.now in
    let none : length (into_iter_items c.loop-orders.orders-iterator) ≡ 0 = search rules in
    all_seated done c.loop-number.seats.items c.loop-orders.seats.items (omega (arith, all, none)) was.new had

use Rattle.std.proofs.Common.{◌≡◌, ◌∙◌, ◌<◌, length, slice_index_or, get_or-set_other, ap, refl, arith, ◌∷◌, [], ◌++◌}
use Rattle.std.specs.Prelude.{option_to_list}
use Rattle.std.proofs.lemmas.List.{length-set, map-append}
use Rattle.hub_life.specs.OrderSeat.{OrderSeat}
use Rattle.hub_run.specs.Seats.{orders_of}
use Rattle.hub_agent.specs.declared.shared.Peer.{Peer}
use Rattle.hub_agent.specs.declared.opening.Seat.{Seat}
use Rattle.hub_run.proofs.Peers.{front_of, gets_more, last_of}
use Rattle.hub_run.proofs.making.add_peer_agent_to_every_seat.Goals as goal

pub loop-place-preserved : goal.loop-place-preserved
loop-place-preserved c =
    let was = c.loop-place.invariant in
    let place = c.loop-place.place in
    let seats = c.loop-place.seats in
    let s = slice_index_or seats place c.index-seats-place.result in
    let now : Seat = record s { peers = c.push_or_drop.new.list } in
    let inside : place < length seats = omega (arith, was.count, c.loop-place-test.true) in
    record {
      count = length-set seats place now ∙ was.count;
      end = refl;
      orders = λ seat all. front_of (λ (o : OrderSeat). o ≡ seat) c.pop.new.self.items (option_to_list c.pop.result) c.loop-place.orders.items c.pop.ensures.items (was.orders seat all);
      got = λ seat all.
          let order = last_of (λ (o : OrderSeat). o ≡ seat) c.pop.new.self.items c.loop-place.orders.items c.pop.result c.in-Some.order c.pop.ensures.items c.in-Some.is (was.orders seat all) in
          let peer : Peer = record { order = c.in-Some.order; bell = c.in_ok-bell.bell } in
          let more : c.push_or_drop.new.list.items ≡ s.peers.items ++ peer ∷ [] = c.in_ok-push_or_drop.ensures.items in
          gets_more seat c.args.seats.now seats place now c.index-seats-place.result was.count inside (was.got seat all) was.same
          (refl, ap orders_of more ∙ map-append (λ (p : Peer). p.order) s.peers.items (peer ∷ []) ∙ ap (λ (o : OrderSeat). orders_of s.peers.items ++ o ∷ []) order);
      same = λ k d above. get_or-set_other seats place k now d (λ is. absurd (omega (arith, above, is))) ∙ was.same k d (omega (arith, above));
    }

pub returns : goal.returns
returns c =
    let was = c.loop-place.invariant in
    λ seat all. (was.count, λ k d below. let h = was.got seat all k d (omega (arith, below, c.loop-place-test.false)) in h)

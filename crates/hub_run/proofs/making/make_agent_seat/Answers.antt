use Rattle.std.proofs.Common.{refl, rules}
use Rattle.hub_run.proofs.Peers.{both_seats, orders_left}
use Rattle.hub_run.proofs.making.make_agent_seat.Goals as goal

pub returns-clause-orders : goal.returns-clause-orders
returns-clause-orders c = orders_left c.in_ok-orders.orders.items c.pop.new.self.items c.pop-2.new.self.items c.in-Some-Some.for_agent c.in-Some-Some.for_loop c.pop.result c.pop-2.result c.pop.ensures.items c.in-Some-Some.is-0 c.pop-2.ensures.items c.in-Some-Some.is-1 c.in_ok-orders.ensures.new c.in_ok-orders.ensures.one_word

pub returns-clause-seat : goal.returns-clause-seat
returns-clause-seat c =
    let (new, same) = both_seats c.in_ok-orders.orders.items c.pop.new.self.items c.pop-2.new.self.items c.in-Some-Some.for_agent c.in-Some-Some.for_loop c.pop.result c.pop-2.result c.pop.ensures.items c.in-Some-Some.is-0 c.pop-2.ensures.items c.in-Some-Some.is-1 c.in_ok-orders.ensures.new c.in_ok-orders.ensures.one_word in
    record { number_is = refl; for_agent = new; for_loop = same; peers = search rules }

use Rattle.std.proofs.Common.{[], ◌∙◌, ap, subst}
use Rattle.hub_loop.specs.Ending.{grave_ends}
use Rattle.hub_ports.specs.Closing.{IsTold}
use Rattle.hub_ports.specs.Seats.{PortSeat}
use Rattle.hub_ports.specs.declared.closing.ClosedPort.{ClosedPort}
use Rattle.hub_loop.proofs.Endings.{behind-one, notices-one, push-same}
use Rattle.hub_loop.proofs.sweeping.close_ports_found_in_envelopes.Goals as goal

pub loop-graves-preserved : goal.loop-graves-preserved
loop-graves-preserved g c =
    let now = c.loop-graves in
    let grave = c.close_port-grave.result.0 in
    let port : ClosedPort = c.close_port-grave.result.1 in
    behind-one (grave_ends c.args.graves.now.items) [] now.graves.items c.push_back_reserved.new.self.items grave c.unwrap-arrived.result
    c.args.noticed.now.items now.noticed.items c.push_reserved.new.self.items
    now.invariant
    (push-same now.graves.items c.reserve.new.self.items c.push_back_reserved.new.self.items grave c.reserve.ensures.items c.push_back_reserved.ensures.items)
    (ap (λ g. g.end) c.close_port-grave.ensures.grave ∙ ap (λ (p : PortSeat). p.taker.end) c.into_port.ensures)
    (notices-one c.unwrap-arrived.result port now.noticed.items c.push_reserved.new.self.items
    (push-same now.noticed.items c.reserve-in-loop-graves.new.self.items c.push_reserved.new.self.items port c.reserve-in-loop-graves.ensures.items c.push_reserved.ensures.items)
    (subst (λ (p : PortSeat). IsTold p port) c.into_port.ensures c.close_port-grave.ensures.told))

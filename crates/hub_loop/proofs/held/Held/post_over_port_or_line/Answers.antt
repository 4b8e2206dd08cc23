use Rattle.std.proofs.Common.{◌∙◌, ap, sym}
use Rattle.hub_ports.specs.Seats.{PortSeat}
use Rattle.hub_queue.specs.Taking.{TakerSeat}
use Rattle.hub_loop.specs.Holding.{at_stand, stand_held}
use Rattle.hub_loop.specs.declared.held.Held.TheVariants.{Port as PortHeld}
use Rattle.hub_loop.proofs.held.Held.post_over_port_or_line.Goals as goal

pub returns-in-Port-clause-posted : goal.returns-in-Port-clause-posted
returns-in-Port-clause-posted g c =
    let left : PortSeat = c.post_parcel.new.self in
    let same = ap (λ (t : TakerSeat). PortHeld (record { taker = t; poster = left.poster })) c.post_parcel.ensures.taker in
    (c.in-Port.port.poster, left.poster, ap stand_held c.in-Port.is, c.post_parcel.ensures.sent, same ∙ sym (ap (λ h. at_stand h left.poster) c.in-Port.is))

pub returns-in-Line-clause-posted : goal.returns-in-Line-clause-posted
returns-in-Line-clause-posted g c =
    (c.in-Line.line, c.send_parcel_over_line.new.line, ap stand_held c.in-Line.is, c.send_parcel_over_line.ensures.sent, sym (ap (λ h. at_stand h c.send_parcel_over_line.new.line) c.in-Line.is))

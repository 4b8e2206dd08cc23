use Rattle.std.proofs.Common.{◌↔◌, ◌≤◌, Contains, IsErrOf, length, subst}
use Rattle.hub_envelope.specs.declared.limits.TheConstants.{MAX_PORTS}
use Rattle.hub_ports.specs.declared.error.SendRefusal.TheVariants.{Doomed}
use Rattle.hub_ports.specs.Refusing.{answer_with, carried_body}
use Rattle.hub_ports.specs.Seats.{PortSeat, ends_of}
use Rattle.hub_ports.specs.Sending.{IsSent}
use Rattle.hub_ports.proofs.port.Port.post_parcel.Goals as goal

pub returns-clause-sent : goal.returns-clause-sent
returns-clause-sent g c =
    let of_port : PortSeat → Type 0 =
    λ p. IsSent p.poster c.send_parcel_over_line.new.line c.args.agent (carried_body c.args.parcel.now) c.args.parcel.now.ports.items (answer_with c.send_parcel_over_line.result c.send_parcel_over_line.new.parcel c.send_parcel_over_line.new.closings) in
    subst of_port c.self.view_is c.send_parcel_over_line.ensures.sent

pub returns-clause-doomed : goal.returns-clause-doomed
returns-clause-doomed g c =
    let of_port : PortSeat → Type 0 =
    λ p. IsErrOf c.send_parcel_over_line.result Doomed ↔ ((length c.args.parcel.now.ports.items ≤ MAX_PORTS) × Contains (ends_of c.args.parcel.now.ports.items) p.poster.name.end) in
    subst of_port c.self.view_is c.send_parcel_over_line.ensures.doomed

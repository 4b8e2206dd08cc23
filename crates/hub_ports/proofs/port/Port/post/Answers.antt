use Rattle.std.proofs.Common.{subst}
use Rattle.hub_ports.specs.Seats.{PortSeat}
use Rattle.hub_ports.specs.Sending.{IsSent}
use Rattle.hub_ports.proofs.port.Port.post.Goals as goal

pub returns-clause-sent : goal.returns-clause-sent
returns-clause-sent g c =
    let of_port : PortSeat → Type 0 = λ p. IsSent p.poster c.send.new.line c.args.agent c.args.body c.args.transfer.items c.send.result in
    subst of_port c.self.view_is c.send.ensures.sent

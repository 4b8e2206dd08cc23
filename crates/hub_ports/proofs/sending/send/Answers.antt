use Rattle.std.proofs.Common.{◌≡◌, List, [], ap, subst, sym, ◌∙◌, ℕ, Ok, Vec, rules}
use Rattle.std.specs.declared.alloc.Global.{Global}
use Rattle.hub_queue.specs.Putting.{lent_list}
use Rattle.hub_ports.specs.Refusing.{carried_body}
use Rattle.hub_ports.specs.Seats.{PortSeat}
use Rattle.hub_ports.specs.Sending.{IsSent}
use Rattle.hub_ports.proofs.sending.send.Goals as goal

pub returns-in-Ok-clause-sent : goal.returns-in-Ok-clause-sent
returns-in-Ok-clause-sent g c =
    let parcel = c.new-parcel.result in
    let none : parcel.ports.items ≡ [] = search rules in
    let empty : c.args.transfer.items ≡ [] = ap (λ (v : Vec PortSeat Global). v.items) (sym c.new-parcel.ensures.1) ∙ none in
    subst (λ (body : List ℕ). IsSent c.args.line.now c.send_without_ports.new.line c.args.agent body c.args.transfer.items (Ok c.in-Ok.posted)) (ap lent_list c.new-parcel.ensures.0)
    (subst (λ (ports : List PortSeat). IsSent c.args.line.now c.send_without_ports.new.line c.args.agent (carried_body parcel) ports (Ok c.in-Ok.posted)) (sym empty) (c.in-Ok.ensures.sent []))

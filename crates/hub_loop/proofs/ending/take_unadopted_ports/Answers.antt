use Rattle.std.proofs.Common.{◌∙◌, ap, sym}
use Rattle.hub_loop.specs.Ending.{found_of, ports_found}
use Rattle.hub_loop.proofs.ending.take_unadopted_ports.Goals as goal

pub returns-in-Some-arrival-clause-items : goal.returns-in-Some-arrival-clause-items
returns-in-Some-arrival-clause-items c =
    ap (λ found. found.items) c.replace.ensures.value
    ∙ sym (ap found_of c.in-Some.is ∙ ap (λ d. ports_found d.arrival) (sym c.delivery.view_is) ∙ ap ports_found c.in-Some-arrival.is ∙ ap (λ r. r.found) (sym c.receiving.view_is))

use Rattle.std.proofs.Common.{◌∙◌, ap, sym, length}
use Rattle.hub_loop.specs.Ending.{found_of, ports_found}
use Rattle.hub_loop.proofs.ending.count_unadopted_ports.Goals as goal

pub returns-in-Some-arrival : goal.returns-in-Some-arrival
returns-in-Some-arrival c =
    c.len.ensures
    ∙ c.receiving.inside.found.ok.0
    ∙ ap length (sym (ap found_of c.in-Some.is ∙ ap (λ d. ports_found d.arrival) (sym c.delivery.view_is) ∙ ap ports_found c.in-Some-arrival.is ∙ ap (λ r. r.found) (sym c.receiving.view_is)))

use Rattle.std.proofs.Common.{◌∙◌, ap, refl, subst, sym}
use Rattle.hub_ports.specs.Seats.{ends_of}
use Rattle.hub_ports.specs.Splitting.{IsSplit}
use Rattle.hub_loop.specs.Delivering.{IsLookedForIn}
use Rattle.hub_loop.specs.States.{ReceivingState}
use Rattle.hub_loop.proofs.Delivers.{looked-new, looked-old}
use Rattle.hub_loop.proofs.delivery.Undelivered.take_ports_from_flight_once.Goals as goal

pub returns-in-Some-clause-ok : goal.returns-in-Some-clause-ok
returns-in-Some-clause-ok g c =
    let old = c.args.self.now in
    let r = c.in-Some.field-0 in
    let is = sym (ap (λ d. d.arrival) c.self.view_is) ∙ c.in-Some.is in
    (r, is, looked-old old.arrival old.envelope r is)

pub returns-in_ok-found-in-None-clause-ok : goal.returns-in_ok-found-in-None-clause-ok
returns-in_ok-found-in-None-clause-ok g c =
    let old = c.args.self.now in
    let envelope = c.self.inside.envelope in
    let missing = c.in_ok-found-in-None.field-0.missing.items in
    let r : ReceivingState = record { found = c.from_vec.result.items; missing = missing } in
    let none = sym (ap (λ d. d.arrival) c.self.view_is) ∙ c.in-None.is in
    let split = subst (λ found. IsSplit envelope.ports (ends_of found) missing) (sym c.from_vec.ensures.items) c.in_ok-found-in-None.ensures in
    (r, refl, subst (λ v. IsLookedForIn old.arrival v r) (ap (λ d. d.envelope) c.self.view_is) (looked-new old.arrival envelope r none split))

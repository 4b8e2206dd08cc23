use Rattle.std.proofs.Common.{◌≡◌, ◌∙◌, rules, inl, inr, subst}
use Rattle.hub_loop.specs.Adopting.{IsPortBuried, IsUnfit}
use Rattle.hub_loop.specs.States.{closed_of}
use Rattle.hub_loop.specs.declared.held.Held.TheVariants.{Port}
use Rattle.hub_ports.specs.Adopting.{IsReceived}
use Rattle.std.specs.Prelude.{Err}
use Rattle.hub_loop.proofs.Delivers.{buried-after, holds-after}
use Rattle.hub_loop.proofs.Marks.{kept_after}
use Rattle.hub_loop.proofs.ends.Holding.adopt_first_port.Goals as goal

pub returns-in-Ok-clause-adopted : goal.returns-in-Ok-clause-adopted
returns-in-Ok-clause-adopted g c =
    let p = c.unwrap-arrived.result in
    let q = c.in-Ok.port in
    let same = c.reserve_and_clone_bell.ensures.same in
    (p, search rules, inl (q, c.in-Ok.ensures, holds-after c.args.self.now.ends.held c.reserve_and_clone_bell.new.self.ends.held c.hold_assuming_room.new.self.held (Port q) same.held c.hold_assuming_room.ensures.held, same.closed, search rules))

pub returns-in-Ok-clause-marks : goal.returns-in-Ok-clause-marks
returns-in-Ok-clause-marks g c = kept_after c.reserve_and_clone_bell.ensures.marks c.hold_assuming_room.ensures.marks

pub returns-in-Err-OutOfMemory-default-clause-adopted : goal.returns-in-Err-OutOfMemory-default-clause-adopted
returns-in-Err-OutOfMemory-default-clause-adopted g c = (search rules, c.reserve_and_clone_bell.ensures.same, search rules)

pub returns-in-Err-TooManyMoves-default-clause-adopted : goal.returns-in-Err-TooManyMoves-default-clause-adopted
returns-in-Err-TooManyMoves-default-clause-adopted g c =
    let p = c.unwrap-arrived.result in
    let error = c.in-Err-TooManyMoves-default.field-0-0 in
    let old = c.args.self.now in
    let mid = c.reserve_and_clone_bell.new.self in
    let unfit : IsUnfit error = search rules in
    let came : c.in-Err-TooManyMoves-default.arrived ≡ p = c.in-Err-TooManyMoves-default.ensures.1 in
    let received = subst (λ q. IsReceived p (Err (error, q))) came c.in-Err-TooManyMoves-default.ensures in
    let closed = c.close_port-grave in
    let buried = subst (λ q. IsPortBuried q (closed_of mid.closed) (closed_of c.add_closed_port.new.self)) (c.into_port.ensures ∙ came) (closed.result.0, closed.result.1, closed.ensures.grave, closed.ensures.told, c.add_closed_port.ensures.graves, c.add_closed_port.ensures.noticed) in
    let same = c.reserve_and_clone_bell.ensures.same in
    (p, search rules, inr (error, unfit, received, same.held, buried-after p (closed_of old.closed) (closed_of mid.closed) (closed_of c.add_closed_port.new.self) same.closed buried, search rules))

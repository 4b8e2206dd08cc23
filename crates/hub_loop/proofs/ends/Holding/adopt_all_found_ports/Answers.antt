use Rattle.std.proofs.Common.{◌∙◌, sym, subst, Ok}
use Rattle.std.specs.declared.alloc.AllocError.{AllocError}
use Rattle.hub_loop.specs.Adopting.{IsFirstAdopted}
use Rattle.hub_loop.specs.States.{holding_of}
use Rattle.hub_loop.proofs.Delivers.{partly-more, partly-same, all-done}
use Rattle.hub_loop.proofs.Marks.{kept_after}
use Rattle.hub_loop.proofs.ends.Holding.adopt_all_found_ports.Goals as goal

pub loop-error-preserved : goal.loop-error-preserved
loop-error-preserved g c =
    let kept = c.loop-error.invariant in
    let first = subst (λ b. IsFirstAdopted {E = AllocError} c.loop-error.receiving c.adopt_first_port.new.receiving (holding_of c.loop-error.self) (holding_of c.adopt_first_port.new.self) (Ok b)) c.in-Ok-true.field-0-test c.in-Ok-true.ensures.adopted in
    record {
      adopted = partly-more c.args.receiving.now c.loop-error.receiving c.adopt_first_port.new.receiving (holding_of c.args.self.now) (holding_of c.loop-error.self) (holding_of c.adopt_first_port.new.self) first.0 kept.adopted first.1 first.2;
      marks = kept_after kept.marks c.adopt_first_port.ensures.marks;
    }

pub returns-in-Ok-false-clause-adopted : goal.returns-in-Ok-false-clause-adopted
returns-in-Ok-false-clause-adopted g c =
    let kept = c.loop-error.invariant in
    let first = subst (λ b. IsFirstAdopted {E = AllocError} c.loop-error.receiving c.adopt_first_port.new.receiving (holding_of c.loop-error.self) (holding_of c.adopt_first_port.new.self) (Ok b)) c.in-Ok-false.field-0-test c.in-Ok-false.ensures.adopted in (
      first.1,
      all-done c.args.receiving.now c.adopt_first_port.new.receiving (holding_of c.args.self.now) (holding_of c.adopt_first_port.new.self)
          (partly-same c.args.receiving.now c.loop-error.receiving c.adopt_first_port.new.receiving (holding_of c.args.self.now) (holding_of c.loop-error.self) (holding_of c.adopt_first_port.new.self) kept.adopted (first.1 ∙ sym first.0) first.2 first.3)
          first.1,
    )

pub returns-in-Ok-false-clause-marks : goal.returns-in-Ok-false-clause-marks
returns-in-Ok-false-clause-marks g c = kept_after c.loop-error.invariant.marks c.adopt_first_port.ensures.marks

pub returns-in-Err-clause-marks : goal.returns-in-Err-clause-marks
returns-in-Err-clause-marks g c = kept_after c.loop-error.invariant.marks c.adopt_first_port.ensures.marks

pub returns-in-Err-clause-adopted : goal.returns-in-Err-clause-adopted
returns-in-Err-clause-adopted g c =
    let kept = c.loop-error.invariant in
    let first = c.in-Err.ensures.adopted in
    partly-same c.args.receiving.now c.loop-error.receiving c.adopt_first_port.new.receiving (holding_of c.args.self.now) (holding_of c.loop-error.self) (holding_of c.adopt_first_port.new.self) kept.adopted first.0 first.1 first.2

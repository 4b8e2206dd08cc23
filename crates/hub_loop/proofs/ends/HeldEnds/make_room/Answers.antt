use Rattle.std.proofs.Common.{ap, arith, refl, subst}
use Rattle.std.specs.Prelude.{OnOk}
use Rattle.slab.specs.Slab.{Slab, get}
use Rattle.hub_ready.specs.declared.ready.Ready.{Ready}
use Rattle.hub_ready.specs.Marking.{HasBit}
use Rattle.hub_loop.specs.declared.held.Held.{Held}
use Rattle.hub_loop.proofs.Marks.{marked-as, room-grown, same-held}
use Rattle.hub_loop.proofs.ends.HeldEnds.make_room.Goals as goal

pub invariant_of-self : goal.invariant_of-self
invariant_of-self c =
    let old = c.args.self.now in
    record {
      room = omega (arith, old.room, c.reserve.ensures.capacity);
      reached = same-held old.held c.reserve.new.self old.ready (λ key. ap (λ (s : Slab Held). get s key) c.reserve.ensures.rest_kept) old.reached;
    }

pub invariant_of-self-in-Some : goal.invariant_of-self-in-Some
invariant_of-self-in-Some c =
    let old = c.args.self.now in
    record {
      room = omega (arith, old.room, c.reserve.ensures.capacity);
      reached = room-grown old.held c.reserve.new.self old.ready c.reserve_for_end.new.self (λ key. ap (λ (s : Slab Held). get s key) c.reserve.ensures.rest_kept) c.reserve_for_end.ensures.marks c.reserve_for_end.ensures.listed old.reached;
    }

pub invariant_of-self-in-None : goal.invariant_of-self-in-None
invariant_of-self-in-None c =
    let old = c.args.self.now in
    let q : Ready = record { marks = c.reserve-in-None.new.self; listed = old.ready.listed } in
    record {
      room = omega (arith, old.room, c.reserve.ensures.capacity);
      reached = room-grown old.held c.reserve.new.self old.ready q (λ key. ap (λ (s : Slab Held). get s key) c.reserve.ensures.rest_kept) (c.reserve-in-None.ensures.longer, c.reserve-in-None.ensures.same) (λ number. refl) old.reached;
    }

pub returns-in-Some-clause-bit : goal.returns-in-Some-clause-bit
returns-in-Some-clause-bit c =
    subst (λ key. OnOk c.reserve_for_end.result (HasBit c.reserve_for_end.new.self.marks key)) c.vacant_key-key.ensures.value c.reserve_for_end.ensures.ok

pub returns-in-None-clause-bit : goal.returns-in-None-clause-bit
returns-in-None-clause-bit c =
    subst (λ key. OnOk c.reserve-in-None.result (HasBit c.reserve-in-None.new.self key)) c.vacant_key-key.ensures.value c.reserve-in-None.ensures.ok

pub returns-in_err-reserve-clause-marks : goal.returns-in_err-reserve-clause-marks
returns-in_err-reserve-clause-marks c =
    let old = c.args.self.now in
    record { marked = marked-as old.held c.reserve.new.self old.ready old.ready (λ key. ap (λ (s : Slab Held). get s key) c.reserve.ensures.rest_kept) (λ key. refl); next = refl }

pub returns-in-Some-clause-marks : goal.returns-in-Some-clause-marks
returns-in-Some-clause-marks c =
    let old = c.args.self.now in
    record { marked = marked-as old.held c.reserve.new.self old.ready c.reserve_for_end.new.self (λ key. ap (λ (s : Slab Held). get s key) c.reserve.ensures.rest_kept) c.reserve_for_end.ensures.marks.1; next = refl }

pub returns-in-None-clause-marks : goal.returns-in-None-clause-marks
returns-in-None-clause-marks c =
    let old = c.args.self.now in
    let q : Ready = record { marks = c.reserve-in-None.new.self; listed = old.ready.listed } in
    record { marked = marked-as old.held c.reserve.new.self old.ready q (λ key. ap (λ (s : Slab Held). get s key) c.reserve.ensures.rest_kept) c.reserve-in-None.ensures.same; next = refl }

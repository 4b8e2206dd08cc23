use Rattle.std.proofs.Common.{◌≡◌, None, arith, refl}
use Rattle.slab.specs.Slab.{get}
use Rattle.hub_loop.proofs.Marks.{kept_same, marked-but, all-but, moves-other, is-gone}
use Rattle.hub_loop.proofs.ends.HeldEnds.release_end.Goals as goal

pub invariant_of-self : goal.invariant_of-self
invariant_of-self c =
    let old = c.args.self.now in
    let key = c.in_ok-key.key in
    record {
      room = omega (arith, old.room, c.try_remove.ensures.capacity);
      reached = all-but old.held c.try_remove.new.self old.ready c.unmark_and_unlist.new.self key
          c.try_remove.ensures.updates.others
          (moves-other old.ready c.unmark_and_unlist.new.self key c.unmark_and_unlist.ensures.others (λ end other differs leads. c.unmark_and_unlist.ensures.listed end.0 other differs leads))
          (is-gone c.unmark_and_unlist.new.self key (get c.try_remove.new.self key) c.try_remove.ensures.updates.changed)
          old.reached;
    }

pub returns-clause-marks : goal.returns-clause-marks
returns-clause-marks c =
    let old = c.args.self.now in
    let slots = c.try_remove.new.self in
    let key = c.in_ok-key.key in
    record {
      marked = marked-but old.held slots old.ready c.unmark_and_unlist.new.self key c.try_remove.ensures.updates.others c.unmark_and_unlist.ensures.others
          (λ held end is number. absurd (let gone : get slots key ≡ None = c.try_remove.ensures.updates.changed in cc));
      next = refl;
    }

pub returns-in_err-key-clause-marks : goal.returns-in_err-key-clause-marks
returns-in_err-key-clause-marks c = kept_same c.args.self.now

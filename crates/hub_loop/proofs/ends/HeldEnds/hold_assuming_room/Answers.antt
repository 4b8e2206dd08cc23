use Rattle.std.proofs.Common.{◌≡◌, ◌∙◌, ap, subst, sym, arith, refl, rules}
use Rattle.hub_ready.specs.Marking.{HasBit}
use Rattle.hub_loop.specs.Holding.{end_held}
use Rattle.hub_loop.proofs.Marks.{marked-but, same-marks, all-but, is-marked, moves-other, moves-same, is-line}
use Rattle.hub_loop.proofs.ends.HeldEnds.hold_assuming_room.Goals as goal

pub invariant_of-self : goal.invariant_of-self
invariant_of-self c =
    let old = c.args.self.now in
    let key = c.insert_reserved-key.result in
    let bit : HasBit old.ready.marks key = subst (HasBit old.ready.marks) (sym c.insert_reserved-key.ensures.key) c.requires.bit in
    let has : HasBit c.mark_and_list.new.self.marks key = omega (arith, bit, c.mark_and_list.ensures.others.bits) in
    record {
      room = omega (arith, old.room, c.insert_reserved-key.ensures.capacity);
      reached = all-but old.held c.insert_reserved-key.new.self old.ready c.mark_and_list.new.self key
          c.insert_reserved-key.ensures.updates.others
          (moves-other old.ready c.mark_and_list.new.self key c.mark_and_list.ensures.others (λ end other differs leads. c.mark_and_list.ensures.listed end.0 other leads))
          (λ held is. is-marked c.mark_and_list.new.self key held has (c.mark_and_list.ensures.set bit))
          old.reached;
    }

pub invariant_of-self-in_default : goal.invariant_of-self-in_default
invariant_of-self-in_default c =
    let old = c.args.self.now in
    let key = c.insert_reserved-key.result in
    let bit : HasBit old.ready.marks key = subst (HasBit old.ready.marks) (sym c.insert_reserved-key.ensures.key) c.requires.bit in
    record {
      room = omega (arith, old.room, c.insert_reserved-key.ensures.capacity);
      reached = all-but old.held c.insert_reserved-key.new.self old.ready old.ready key
          c.insert_reserved-key.ensures.updates.others
          (λ other differs. moves-same old.ready other)
          (λ held is. is-line old.ready key held c.args.held bit (search rules) (λ end has. c.in_default.not-Some end (c.id_unless_line-end.ensures ∙ has)))
          old.reached;
    }

pub returns-in-Some-clause-marks : goal.returns-in-Some-clause-marks
returns-in-Some-clause-marks c =
    let old = c.args.self.now in
    let key = c.insert_reserved-key.result in
    let bit : HasBit old.ready.marks key = subst (HasBit old.ready.marks) (sym c.insert_reserved-key.ensures.key) c.requires.bit in
    record {
      marked = marked-but old.held c.insert_reserved-key.new.self old.ready c.mark_and_list.new.self key
          c.insert_reserved-key.ensures.updates.others
          c.mark_and_list.ensures.others
          (λ held end is number. c.mark_and_list.ensures.set bit);
      next = refl;
    }

pub returns-in_default-clause-marks : goal.returns-in_default-clause-marks
returns-in_default-clause-marks c =
    let old = c.args.self.now in
    let key = c.insert_reserved-key.result in
    record {
      marked = marked-but old.held c.insert_reserved-key.new.self old.ready old.ready key
          c.insert_reserved-key.ensures.updates.others
          (same-marks key old.ready.marks)
          (λ held end is number.
          let same : held ≡ c.args.held = search rules in
          absurd (c.in_default.not-Some end (c.id_unless_line-end.ensures ∙ sym (ap end_held same) ∙ number)));
      next = refl;
    }

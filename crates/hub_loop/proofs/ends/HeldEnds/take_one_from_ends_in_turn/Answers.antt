use Rattle.std.proofs.Common.{◌+◌, ◌∙◌, ap, arith, refl, subst}
use Rattle.hub_loop.specs.Serving.{AreMarkedServed, HasWalked, next_after}
use Rattle.hub_loop.specs.declared.serving.Served.TheVariants.{Nothing}
use Rattle.hub_loop.specs.declared.serving.Which.TheVariants.{Each}
use Rattle.hub_loop.proofs.Serves.{each-given, each-marked, each-none, each-walked}
use Rattle.hub_loop.proofs.ends.HeldEnds.take_one_from_ends_in_turn.Goals as goal

pub parts-init : goal.parts-init
parts-init g c = record {
  low = omega arith;
  high = c.requires.0;
  served = each-none c.args.low c.args.self.now c.args.listener.now c.args.steps.now c.args.was;
  next = refl;
  capacity = refl;
}

pub parts-preserved : goal.parts-preserved
parts-preserved g c =
    let kept = c.parts.invariant in
    let old = c.args.self.now in
    let mid = c.parts.self in
    let then = c.take_from_range.new.self in
    let new = c.take_one_from_marked_ends_in_turn.new.self in
    let to = c.parts.from + 64 in
    let now = c.in-Nothing.now in
    let walked = subst (HasWalked Each c.parts.from to mid then c.parts.steps c.take_from_range.new.steps c.parts.busy) c.in-Nothing.is c.take_from_range.ensures.walked in
    let part = each-walked c.args.low c.parts.from to old mid then c.args.listener.now c.parts.listener c.args.steps.now c.parts.steps c.take_from_range.new.steps c.args.was c.parts.busy (Nothing now) kept.low (omega arith) kept.served walked in
    let marked = subst (AreMarkedServed then new c.parts.listener c.take_one_from_marked_ends_in_turn.new.listener c.take_from_range.new.steps c.take_one_from_marked_ends_in_turn.new.steps now) c.in-Nothing-take_one_from_marked_ends_in_turn.is c.take_one_from_marked_ends_in_turn.ensures.served in
    record {
      low = omega (arith, kept.low);
      high = omega arith;
      served = each-marked c.args.low to old then new c.args.listener.now c.parts.listener c.take_one_from_marked_ends_in_turn.new.listener c.args.steps.now c.take_from_range.new.steps c.take_one_from_marked_ends_in_turn.new.steps c.args.was now (Nothing c.in-Nothing-take_one_from_marked_ends_in_turn.now) part marked;
      next = c.take_one_from_marked_ends_in_turn.ensures.next ∙ ap (next_after then.next) c.in-Nothing-take_one_from_marked_ends_in_turn.is ∙ c.take_from_range.ensures.next ∙ ap (next_after mid.next) c.in-Nothing.is ∙ kept.next;
      capacity = c.take_one_from_marked_ends_in_turn.ensures.capacity ∙ c.take_from_range.ensures.capacity ∙ kept.capacity;
    }

pub returns-in_default-clause-served : goal.returns-in_default-clause-served
returns-in_default-clause-served g c =
    let kept = c.parts.invariant in
    let old = c.args.self.now in
    let new = c.take_from_range.new.self in
    let to = c.parts.from + 64 in
    each-given c.args.low to c.args.high old new c.args.listener.now c.parts.listener c.args.steps.now c.take_from_range.new.steps c.args.was c.take_from_range.result
    (each-walked c.args.low c.parts.from to old c.parts.self new c.args.listener.now c.parts.listener c.args.steps.now c.parts.steps c.take_from_range.new.steps c.args.was c.parts.busy c.take_from_range.result kept.low (omega arith) kept.served c.take_from_range.ensures.walked)
    c.in_default.not-Nothing

pub returns-in_default-take_one_from_marked_ends_in_turn-clause-served : goal.returns-in_default-take_one_from_marked_ends_in_turn-clause-served
returns-in_default-take_one_from_marked_ends_in_turn-clause-served g c =
    let kept = c.parts.invariant in
    let old = c.args.self.now in
    let mid = c.parts.self in
    let then = c.take_from_range.new.self in
    let new = c.take_one_from_marked_ends_in_turn.new.self in
    let to = c.parts.from + 64 in
    let now = c.in-Nothing.now in
    let walked = subst (HasWalked Each c.parts.from to mid then c.parts.steps c.take_from_range.new.steps c.parts.busy) c.in-Nothing.is c.take_from_range.ensures.walked in
    let part = each-walked c.args.low c.parts.from to old mid then c.args.listener.now c.parts.listener c.args.steps.now c.parts.steps c.take_from_range.new.steps c.args.was c.parts.busy (Nothing now) kept.low (omega arith) kept.served walked in
    each-given c.args.low to c.args.high old new c.args.listener.now c.take_one_from_marked_ends_in_turn.new.listener c.args.steps.now c.take_one_from_marked_ends_in_turn.new.steps c.args.was c.take_one_from_marked_ends_in_turn.result
    (each-marked c.args.low to old then new c.args.listener.now c.parts.listener c.take_one_from_marked_ends_in_turn.new.listener c.args.steps.now c.take_from_range.new.steps c.take_one_from_marked_ends_in_turn.new.steps c.args.was now c.take_one_from_marked_ends_in_turn.result part c.take_one_from_marked_ends_in_turn.ensures.served)
    c.in_default-take_one_from_marked_ends_in_turn.not-Nothing

pub returns-clause-served : goal.returns-clause-served
returns-clause-served g c =
    let kept = c.parts.invariant in
    each-walked c.args.low c.parts.from c.args.high c.args.self.now c.parts.self c.take_from_range-2.new.self c.args.listener.now c.parts.listener c.args.steps.now c.parts.steps c.take_from_range-2.new.steps c.args.was c.parts.busy c.take_from_range-2.result kept.low kept.high kept.served c.take_from_range-2.ensures.walked

use Rattle.std.proofs.Common.{◌∙◌, ap, arith, refl, subst, sym}
use Rattle.hub_loop.specs.Serving.{HasWalked, next_after, IsAskedAt}
use Rattle.hub_loop.proofs.Serves.{given-at, walked-given, walked-more, walked-none, walked-whole}
use Rattle.hub_loop.proofs.ends.HeldEnds.take_from_range.Goals as goal

pub keys-init : goal.keys-init
keys-init g c = record {
  low = omega arith;
  high = c.requires.0;
  walked = walked-none c.args.which c.args.low c.args.self.now c.args.steps.now c.args.was;
  next = refl;
  capacity = refl;
}

pub keys-preserved : goal.keys-preserved
keys-preserved g c =
    let kept = c.keys.invariant in
    let first = c.in-Some.ensures.some in
    let mid = c.keys.self in
    let new = c.take_envelope_at_key_and_update_mark.new.self in
    let key = c.in-Some.key in
    let came = subst (IsAskedAt mid.held new.held key c.keys.steps c.take_envelope_at_key_and_update_mark.new.steps) c.in-Nothing.is c.take_envelope_at_key_and_update_mark.ensures.asked in
    record {
      low = omega (arith, kept.low, first.0);
      high = omega (arith, first.1);
      walked = walked-more c.args.which c.args.low c.keys.from key c.args.self.now mid new c.args.steps.now c.keys.steps c.take_envelope_at_key_and_update_mark.new.steps c.args.was c.keys.busy c.in-Nothing.here
          kept.low first.0 kept.walked first.2 came c.take_envelope_at_key_and_update_mark.ensures.others;
      next = c.take_envelope_at_key_and_update_mark.ensures.next ∙ kept.next;
      capacity = c.take_envelope_at_key_and_update_mark.ensures.capacity ∙ kept.capacity;
    }

pub returns-in_default-take_envelope_at_key_and_update_mark : goal.returns-in_default-take_envelope_at_key_and_update_mark
returns-in_default-take_envelope_at_key_and_update_mark g c =
    let kept = c.keys.invariant in
    let first = c.in-Some.ensures.some in
    let old = c.args.self.now in
    let mid = c.keys.self in
    let new = c.take_envelope_at_key_and_update_mark.new.self in
    let key = c.in-Some.key in
    let gave = given-at mid.held new.held key c.keys.steps c.take_envelope_at_key_and_update_mark.new.steps c.take_envelope_at_key_and_update_mark.result c.take_envelope_at_key_and_update_mark.ensures.asked c.in_default-take_envelope_at_key_and_update_mark.not-Nothing in
    let came = subst (IsAskedAt mid.held new.held key c.keys.steps c.take_envelope_at_key_and_update_mark.new.steps) gave.1 c.take_envelope_at_key_and_update_mark.ensures.asked in
    record {
      walked = subst (HasWalked c.args.which c.args.low c.args.high old new c.args.steps.now c.take_envelope_at_key_and_update_mark.new.steps c.args.was) (sym gave.1)
          (walked-given c.args.which c.args.low c.keys.from key c.args.high old mid new c.args.steps.now c.keys.steps c.take_envelope_at_key_and_update_mark.new.steps c.args.was c.keys.busy gave.0
          kept.low first.0 first.1 kept.walked first.2 came);
      given = c.take_envelope_at_key_and_update_mark.ensures.given;
      next = ap (next_after c.args.self.now.next) (sym gave.1);
      capacity = c.take_envelope_at_key_and_update_mark.ensures.capacity ∙ kept.capacity;
    }

pub returns-clause-walked : goal.returns-clause-walked
returns-clause-walked g c =
    let kept = c.keys.invariant in
    walked-whole c.args.which c.args.low c.keys.from c.args.high c.args.self.now c.keys.self c.args.steps.now c.keys.steps c.args.was c.keys.busy kept.high kept.walked c.in_default.ensures.none

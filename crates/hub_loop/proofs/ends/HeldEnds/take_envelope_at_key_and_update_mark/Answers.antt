use Rattle.std.proofs.Common.{refl, arith}
use Rattle.hub_ready.specs.declared.ready.Ready.{Ready}
use Rattle.hub_loop.proofs.Marks.{asked-cleared, asked-marked}
use Rattle.hub_loop.proofs.ends.HeldEnds.take_envelope_at_key_and_update_mark.Goals as goal

pub invariant_of-self-in-Nothing : goal.invariant_of-self-in-Nothing
invariant_of-self-in-Nothing g c =
    let old = c.args.self.now in
    let q : Ready = record { marks = c.mark_key.new.self; listed = old.ready.listed } in
    record {
      room = omega (arith, old.room, c.take_envelope_at_key-served.ensures.1.capacity);
      reached = asked-marked old.held c.take_envelope_at_key-served.new.held old.ready q c.args.key c.args.steps.now c.take_envelope_at_key-served.new.steps c.take_envelope_at_key-served.result c.take_envelope_at_key-served.ensures refl c.mark_key.ensures.others c.mark_key.ensures.set old.reached;
    }

pub invariant_of-self : goal.invariant_of-self
invariant_of-self g c =
    let old = c.args.self.now in
    let q : Ready = record { marks = c.unmark_key.new.self; listed = old.ready.listed } in
    record {
      room = omega (arith, old.room, c.take_envelope_at_key-served.ensures.1.capacity);
      reached = asked-cleared old.held c.take_envelope_at_key-served.new.held old.ready q c.args.key c.args.steps.now c.take_envelope_at_key-served.new.steps c.take_envelope_at_key-served.result c.take_envelope_at_key-served.ensures refl c.unmark_key.ensures.others (c.may_clear_mark.ensures c.if-may_clear_mark.true) old.reached;
    }

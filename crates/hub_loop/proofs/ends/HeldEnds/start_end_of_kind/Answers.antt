use Rattle.std.proofs.Common.{refl, rules}
use Rattle.std.specs.Prelude.{IsSome}
use Rattle.slab.specs.Slab.{get}
use Rattle.hub_ready.specs.declared.ready.Ready.{Ready}
use Rattle.hub_loop.proofs.Marks.{marked-lent, lent}
use Rattle.hub_loop.proofs.ends.HeldEnds.start_end_of_kind.Goals as goal

pub invariant_of-self : goal.invariant_of-self
invariant_of-self c =
    let old = c.args.self.now in
    let key = c.in-Some.key in
    let some : IsSome (get old.held key) = search rules in
    let q : Ready = record { marks = c.mark_key.new.self; listed = old.ready.listed } in
    record { room = old.room; reached = lent old.held old.ready q key c.start.new.self some refl c.mark_key.ensures.others c.mark_key.ensures.set old.reached }

pub returns-in-Some-get_mut-clause-marks : goal.returns-in-Some-get_mut-clause-marks
returns-in-Some-get_mut-clause-marks c =
    let old = c.args.self.now in
    let key = c.in-Some.key in
    let some : IsSome (get old.held key) = search rules in
    let q : Ready = record { marks = c.mark_key.new.self; listed = old.ready.listed } in
    record { marked = marked-lent old.held old.ready q key c.start.new.self some c.mark_key.ensures.others c.mark_key.ensures.set old.reached; next = refl }

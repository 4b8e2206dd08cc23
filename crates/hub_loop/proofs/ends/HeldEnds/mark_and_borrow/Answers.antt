use Rattle.std.proofs.Common.{refl, rules}
use Rattle.std.specs.Prelude.{IsSome}
use Rattle.slab.specs.Slab.{get}
use Rattle.hub_ready.specs.declared.ready.Ready.{Ready}
use Rattle.hub_loop.proofs.Marks.{lent, all-move, moves-set}
use Rattle.hub_loop.proofs.ends.HeldEnds.mark_and_borrow.Goals as goal

pub invariant_of-self-lent : goal.invariant_of-self-lent
invariant_of-self-lent c = λ result.
    let old = c.args.self.now in
    let some : IsSome (get old.held c.args.key) = search rules in
    let q : Ready = record { marks = c.mark_key.new.self; listed = old.ready.listed } in (
      λ w. (old.room, (lent old.held old.ready q c.args.key w some refl c.mark_key.ensures.others c.mark_key.ensures.set old.reached, tt)),
      (old.room, (all-move old.held old.ready q (moves-set old.ready q c.args.key refl c.mark_key.ensures.others c.mark_key.ensures.set) old.reached, tt)),
    )

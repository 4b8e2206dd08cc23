use Rattle.std.proofs.Common.{subst}
use Rattle.hub_loop.specs.Adopting.{HoldsMore}
use Rattle.hub_loop.specs.Holding.{held_queue}
use Rattle.hub_loop.proofs.Delivers.{holds-after}
use Rattle.hub_loop.proofs.Marks.{kept_after}
use Rattle.hub_loop.proofs.ends.Holding.adopt_queue.Goals as goal

pub returns-in-Ok-adopt_for_loop-clause-ok : goal.returns-in-Ok-adopt_for_loop-clause-ok
returns-in-Ok-adopt_for_loop-clause-ok g c =
    let queue = c.in-Ok-adopt_for_loop.queue in
    let same = c.reserve_and_clone_bell.ensures.same in (
      queue,
      c.in-Ok-adopt_for_loop.ensures,
      holds-after c.args.self.now.ends.held c.reserve_and_clone_bell.new.self.ends.held c.hold_assuming_room.new.self.held (held_queue queue) same.held
          (subst (HoldsMore c.reserve_and_clone_bell.new.self.ends.held c.hold_assuming_room.new.self.held) c.from.ensures c.hold_assuming_room.ensures.held),
      same.closed,
    )

pub returns-in-Ok-adopt_for_loop-clause-marks : goal.returns-in-Ok-adopt_for_loop-clause-marks
returns-in-Ok-adopt_for_loop-clause-marks g c = kept_after c.reserve_and_clone_bell.ensures.marks c.hold_assuming_room.ensures.marks

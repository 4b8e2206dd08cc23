use Rattle.hub_loop.proofs.Delivers.{holds-after}
use Rattle.hub_loop.proofs.Marks.{kept_after}
use Rattle.hub_loop.proofs.ends.HeldEnds.hold_end_or_line.Goals as goal

pub invariant_of-self : goal.invariant_of-self
invariant_of-self c = record { room = c.make_room.new.self.room; reached = c.make_room.new.self.reached }

pub returns-clause-ok : goal.returns-clause-ok
returns-clause-ok c = holds-after c.args.self.now.held c.make_room.new.self.held c.hold_assuming_room.new.self.held c.args.held c.make_room.ensures.held c.hold_assuming_room.ensures.held

pub returns-clause-marks : goal.returns-clause-marks
returns-clause-marks c = kept_after c.make_room.ensures.marks (record { marked = c.hold_assuming_room.ensures.marks.marked; next = c.hold_assuming_room.ensures.marks.next })

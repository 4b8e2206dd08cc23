use Rattle.std.proofs.Common.{false, subst}
use Rattle.hub_loop.specs.Serving.{AreEachServed, AreMarkedServed}
use Rattle.hub_loop.proofs.Serves.{served-first, served-last, served-then}
use Rattle.hub_loop.proofs.ends.HeldEnds.take_next.Goals as goal

pub returns-in_default-clause-served : goal.returns-in_default-clause-served
returns-in_default-clause-served g c =
    served-first c.args.self.now c.take_one_from_marked_ends_in_turn.new.self c.args.listener.now c.take_one_from_marked_ends_in_turn.new.listener c.args.steps.now c.take_one_from_marked_ends_in_turn.new.steps false c.take_one_from_marked_ends_in_turn.result c.take_one_from_marked_ends_in_turn.ensures.served c.in_default.not-Nothing

pub returns-in_default-take_one_from_ends_in_turn-clause-served : goal.returns-in_default-take_one_from_ends_in_turn-clause-served
returns-in_default-take_one_from_ends_in_turn-clause-served g c =
    let old = c.args.self.now in
    let mid = c.take_one_from_marked_ends_in_turn.new.self in
    let first = subst (AreMarkedServed old mid c.args.listener.now c.take_one_from_marked_ends_in_turn.new.listener c.args.steps.now c.take_one_from_marked_ends_in_turn.new.steps false) c.in-Nothing.is c.take_one_from_marked_ends_in_turn.ensures.served in
    served-then old.next c.capacity-high.result old mid c.take_one_from_ends_in_turn.new.self c.args.listener.now c.take_one_from_marked_ends_in_turn.new.listener c.take_one_from_ends_in_turn.new.listener c.args.steps.now c.take_one_from_marked_ends_in_turn.new.steps c.take_one_from_ends_in_turn.new.steps false c.in-Nothing.marked c.take_one_from_ends_in_turn.result first c.take_one_from_ends_in_turn.ensures.served c.in_default-take_one_from_ends_in_turn.not-Nothing

pub returns-in-Nothing-take_one_from_ends_in_turn-clause-served : goal.returns-in-Nothing-take_one_from_ends_in_turn-clause-served
returns-in-Nothing-take_one_from_ends_in_turn-clause-served g c =
    let old = c.args.self.now in
    let mid = c.take_one_from_marked_ends_in_turn.new.self in
    let then = c.take_one_from_ends_in_turn.new.self in
    let last = c.take_one_from_ends_in_turn-in-Nothing-take_one_from_ends_in_turn in
    let first = subst (AreMarkedServed old mid c.args.listener.now c.take_one_from_marked_ends_in_turn.new.listener c.args.steps.now c.take_one_from_marked_ends_in_turn.new.steps false) c.in-Nothing.is c.take_one_from_marked_ends_in_turn.ensures.served in
    let ahead = subst (AreEachServed old.next c.capacity-high.result mid then c.take_one_from_marked_ends_in_turn.new.listener c.take_one_from_ends_in_turn.new.listener c.take_one_from_marked_ends_in_turn.new.steps c.take_one_from_ends_in_turn.new.steps c.in-Nothing.marked) c.in-Nothing-take_one_from_ends_in_turn.is c.take_one_from_ends_in_turn.ensures.served in
    served-last c.capacity-high.result old mid then last.new.self c.args.listener.now c.take_one_from_marked_ends_in_turn.new.listener c.take_one_from_ends_in_turn.new.listener last.new.listener c.args.steps.now c.take_one_from_marked_ends_in_turn.new.steps c.take_one_from_ends_in_turn.new.steps last.new.steps c.in-Nothing.marked c.in-Nothing-take_one_from_ends_in_turn.ahead last.result c.capacity-high.ensures.value first ahead last.ensures.served

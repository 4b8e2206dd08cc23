use Rattle.std.proofs.Common.{arith, subst}
use Rattle.hub_loop.specs.Serving.{HasWalked}
use Rattle.hub_loop.specs.declared.serving.Which.TheVariants.{Marked}
use Rattle.hub_loop.proofs.Serves.{gathered, looked, marked-ahead, marked-behind, Gathered}
use Rattle.hub_loop.proofs.ends.HeldEnds.take_one_from_marked_ends_in_turn.Goals as goal

pub returns-in-Nothing-clause-served : goal.returns-in-Nothing-clause-served
returns-in-Nothing-clause-served g c =
    let old = c.args.self.now in
    let mid = c.mark_rung_ends.new.self in
    let looks = c.mark_rung_ends.ensures.found in
    let then = c.take_from_range.new.self in
    let found : Gathered old.ready mid looks.0 = record { keeps = c.mark_rung_ends.ensures.keeps; listed = c.mark_rung_ends.ensures.listed; finds = looks.2 } in
    let first = subst (HasWalked Marked old.next c.capacity-high.result (looked old mid looks.0 found) then c.args.steps.now c.take_from_range.new.steps c.args.was) c.in-Nothing.is c.take_from_range.ensures.walked in
    marked-behind c.capacity-high.result old then c.take_from_range-in-Nothing.new.self mid c.args.listener.now c.mark_rung_ends.new.listener looks.0 c.args.steps.now c.take_from_range.new.steps c.take_from_range-in-Nothing.new.steps c.args.was c.in-Nothing.busy c.take_from_range-in-Nothing.result
    looks.1 found (omega arith) c.capacity-high.ensures.value first c.take_from_range-in-Nothing.ensures.walked

pub returns-in_default-clause-served : goal.returns-in_default-clause-served
returns-in_default-clause-served g c =
    let old = c.args.self.now in
    let mid = c.mark_rung_ends.new.self in
    let looks = c.mark_rung_ends.ensures.found in
    let found : Gathered old.ready mid looks.0 = record { keeps = c.mark_rung_ends.ensures.keeps; listed = c.mark_rung_ends.ensures.listed; finds = looks.2 } in
    marked-ahead c.capacity-high.result old c.take_from_range.new.self mid c.args.listener.now c.mark_rung_ends.new.listener looks.0 c.args.steps.now c.take_from_range.new.steps c.args.was c.take_from_range.result
    looks.1 found c.take_from_range.ensures.walked c.in_default.not-Nothing

pub invariant_of-self : goal.invariant_of-self
invariant_of-self g c =
    let old = c.args.self.now in
    record { room = old.room; reached = gathered old.held old.ready c.mark_rung_ends.new.self c.mark_rung_ends.ensures.keeps c.mark_rung_ends.ensures.listed old.reached }

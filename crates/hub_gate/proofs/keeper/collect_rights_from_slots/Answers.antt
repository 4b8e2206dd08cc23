use Rattle.std.proofs.Common.{rules, arith, ◌<◌, length, Some, refl}
use Rattle.hub_gate.specs.Taking.{values_in}
use Rattle.hub_gate.proofs.Emptying.{starts, in_turn, same_value, some_of, emptied_more}
use Rattle.hub_gate.proofs.keeper.collect_rights_from_slots.Goals as goal

pub loop-line-init : goal.loop-line-init
loop-line-init g c = (refl, refl, starts c.args.seat.now.me (values_in c.args.seat.now.me.1) c.args.rights.now.items c.requires.room.0 c.requires.held)

pub exchange-requires : goal.exchange-requires
exchange-requires g c =
    let kept = c.loop-line.invariant.2 in
    let lt : c.loop-line.line < length (values_in c.args.seat.now.me.1) = omega arith in
    let next = in_turn _ _ _ _ _ _ kept.1 kept.2 lt kept.3 in
    (search rules, (Some next.0, next.3))

pub unwrap-right-requires : goal.unwrap-right-requires
unwrap-right-requires g c =
    let kept = c.loop-line.invariant.2 in
    let lt : c.loop-line.line < length (values_in c.args.seat.now.me.1) = omega arith in
    let next = in_turn _ _ _ _ _ _ kept.1 kept.2 lt kept.3 in
    some_of _ _ (same_value _ _ _ _ next.3 c.exchange.ensures.2)

pub loop-line-preserved : goal.loop-line-preserved
loop-line-preserved g c =
    let kept = c.loop-line.invariant.2 in
    let lt : c.loop-line.line < length (values_in c.args.seat.now.me.1) = omega arith in
    (search rules, search rules, emptied_more _ _ _ _ c.unwrap-right.result _ _ _ _ _ _ kept.1 kept.2 lt kept.3 c.exchange.ensures.2 c.unwrap-right.ensures c.push_reserved.ensures.items c.exchange.ensures.3 c.turn.ensures.2)

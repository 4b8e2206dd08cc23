use Rattle.std.proofs.Common.{◌++◌, ◌∷◌, [], refl, subst, sym}
use Rattle.std.specs.Vec.Iter.{into_iter_items}
use Rattle.hub_envelope.specs.declared.limits.TheConstants.{MAX_PORTS}
use Rattle.hub_ports.specs.Closing.{AreDoomed}
use Rattle.hub_ports.proofs.Dooms.{doomed_one, doomed_more, room_left, next_left}
use Rattle.hub_ports.proofs.closing.close_listed_ports.Goals as goal

pub push-requires : goal.push-requires
push-requires g c =
    let kept = c.loop-port.invariant in
    room_left MAX_PORTS c.args.ports.items c.loop-port.yielded (into_iter_items c.loop-port.port-iterator) (into_iter_items c.next.new.self) c.in-Some.port c.loop-port.closings
    c.requires kept.left c.in-Some.ensures.steps.0 kept.closed

pub loop-port-preserved : goal.loop-port-preserved
loop-port-preserved g c =
    let kept = c.loop-port.invariant in
    record {
      left = next_left c.args.ports.items c.loop-port.yielded (into_iter_items c.loop-port.port-iterator) (into_iter_items c.next.new.self) c.in-Some.port kept.left c.in-Some.ensures.steps.0;
      closed = subst (AreDoomed (c.loop-port.yielded ++ c.in-Some.port ∷ [])) (sym c.push.ensures)
          (doomed_more c.loop-port.yielded c.loop-port.closings c.in-Some.port _ kept.closed
          (doomed_one c.in-Some.port c.put_notice_and_close_port-grave.result.0 c.put_notice_and_close_port-grave.result.1 _ _ _ c.into_queue_witness.result c.new-closed.ensures c.id-end.ensures c.put_notice_and_close_port-grave.ensures.grave c.into_queue_witness.ensures c.put_notice_and_close_port-grave.ensures.notice));
    }

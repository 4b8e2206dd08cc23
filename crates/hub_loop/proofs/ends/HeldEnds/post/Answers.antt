use Rattle.std.proofs.Common.{◌≡◌, Some, rules}
use Rattle.slab.specs.Slab.{get}
use Rattle.hub_ports.specs.Refusing.{answer_with, carried_body}
use Rattle.hub_loop.proofs.Posts.{posted-end, same-end}
use Rattle.hub_loop.proofs.ends.HeldEnds.post.Goals as goal

pub invariant_of-self : goal.invariant_of-self
invariant_of-self g c = record { room = c.args.self.now.room; reached = c.args.self.now.reached }

pub invariant_of-self-2 : goal.invariant_of-self-2
invariant_of-self-2 g c =
    let old = c.args.self.now in
    let held = c.in_ok-get_mut.field-0.now in
    let was : get old.held c.in_ok-key.key ≡ Some held = search rules in
    record {
      room = old.room;
      reached = same-end old.held old.ready c.in_ok-key.key held c.post_over_port_or_line.new.self was
          (posted-end (λ answer. answer_with answer c.post_over_port_or_line.new.parcel c.post_over_port_or_line.new.closings) c.args.agent (carried_body c.args.parcel.now) c.args.parcel.now.ports.items held c.post_over_port_or_line.new.self c.post_over_port_or_line.result c.post_over_port_or_line.ensures.posted c.post_over_port_or_line.ensures.same) old.reached;
    }

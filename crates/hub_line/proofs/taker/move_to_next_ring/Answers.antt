use Rattle.std.proofs.Common.{◌∙◌, ap}
use Rattle.rtrb.specs.Ring.{received}
use Rattle.hub_line.specs.declared.ring.Source.{Source}
use Rattle.hub_line.specs.declared.ring.Ahead.TheVariants.{Open}
use Rattle.hub_line.specs.Reach.{taken_of}
use Rattle.hub_line.proofs.Reach.{hop_same}
use Rattle.hub_line.proofs.taker.move_to_next_ring.Goals as goal

pub returns-clause-same : goal.returns-clause-same
returns-clause-same g c =
    ap (λ (s : Source _). taken_of s Open (received c.args.rail.now)) c.into_inner.ensures
    ∙ hop_same (received c.args.rail.now) c.args.source.now c.args.next c.requires.reached c.requires.none

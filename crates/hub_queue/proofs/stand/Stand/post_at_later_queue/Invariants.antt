use Rattle.std.proofs.Common.{◌≡◌}
use Rattle.hub_queue.specs.Watching.{told_more, points_hopping}
use Rattle.hub_queue.proofs.Hopping.{GoneOn}
use Rattle.hub_queue.proofs.Hops.{WentOver}
use Rattle.hub_queue.proofs.stand.Stand.post_at_later_queue.Given as goal

abbrev pub invariant-loop-hop : goal.invariant-loop-hop
invariant-loop-hop g l = record {
  gone : GoneOn l.fn.self l.self l._hop l.fn.refusal l.found;
  same_body : l.body ≡ l.initial.body;
  same_ports : l.ports ≡ l.initial.ports;
  went : WentOver (g.L.Lends.shown l.initial.yard) (g.L.Lends.shown l.yard) l.fn.self.name l.self l._hop;
  told : g.H.Hears.told l.heard ≡ told_more (g.H.Hears.told l.initial.heard) (points_hopping l._hop);
}

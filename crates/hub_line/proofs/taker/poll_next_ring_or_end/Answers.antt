use Rattle.std.proofs.Common.{rules, ◌≡◌, [], ◌∷◌, ◌++◌}
use Rattle.rtrb.specs.Ring.{received}
use Rattle.hub_line.specs.Rings.{given, known, fed}
use Rattle.hub_line.specs.declared.ring.Track.TheVariants.{Onward, End}
use Rattle.hub_line.proofs.Reach.{onward_reached, end_reached, heard_same}
use Rattle.hub_line.proofs.taker.poll_next_ring_or_end.Goals as goal

pub returns-in-Onward-clause-reached : goal.returns-in-Onward-clause-reached
returns-in-Onward-clause-reached g c =
    let after : received c.pop.new.self ≡ received c.args.rail.now ++ Onward c.in-Onward.over c.in-Onward.next ∷ [] = search rules in
    let all : given c.count_with_feed.new.self ++ known c.count_with_feed.new.self ≡ fed c.in-Onward.over = search rules in
    let empty : given c.in-Onward.next.value ≡ [] = search rules in
    onward_reached (received c.args.rail.now) (received c.pop.new.self) c.in-Onward.over c.count_with_feed.new.self c.in-Onward.next after all empty

pub returns-in-Onward-clause-same : goal.returns-in-Onward-clause-same
returns-in-Onward-clause-same g c =
    let after : received c.pop.new.self ≡ received c.args.rail.now ++ Onward c.in-Onward.over c.in-Onward.next ∷ [] = search rules in
    heard_same (received c.args.rail.now) (received c.pop.new.self) (Onward c.in-Onward.over c.in-Onward.next) (given c.args.source.now) (given c.count_with_feed.new.self) after (search rules)

pub returns-in-End-clause-reached : goal.returns-in-End-clause-reached
returns-in-End-clause-reached g c =
    let after : received c.pop.new.self ≡ received c.args.rail.now ++ End c.in-End.over ∷ [] = search rules in
    let all : given c.count_with_feed-in-End.new.self ++ known c.count_with_feed-in-End.new.self ≡ fed c.in-End.over = search rules in
    end_reached (received c.args.rail.now) (received c.pop.new.self) c.in-End.over c.count_with_feed-in-End.new.self after all

pub returns-in-End-clause-same : goal.returns-in-End-clause-same
returns-in-End-clause-same g c =
    let after : received c.pop.new.self ≡ received c.args.rail.now ++ End c.in-End.over ∷ [] = search rules in
    heard_same (received c.args.rail.now) (received c.pop.new.self) (End c.in-End.over) (given c.args.source.now) (given c.count_with_feed-in-End.new.self) after (search rules)

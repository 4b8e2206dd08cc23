use Rattle.std.proofs.Common.{rules, ◌≡◌, ◌++◌, ◌≤◌}
use Rattle.rtrb.specs.Ring.{sent, received, known_items, known_free}
use Rattle.hub_line.specs.Rings.{known}
use Rattle.hub_line.specs.Tracks.{in_use, settled}
use Rattle.hub_line.specs.Reach.{HasReached}
use Rattle.hub_line.proofs.Waiting.{stands_looked, waits_over, next_not_open, last_not_open}
use Rattle.hub_line.proofs.beside.count_waiting_unless_in_several_rings.Goals as goal

pub returns-in-Next-clause-stands : goal.returns-in-Next-clause-stands
returns-in-Next-clause-stands g c =
    let same : sent c.slots_beside-2.new.producer ≡ sent c.args.rail.now = search rules in
    let more : known_free c.args.rail.now ≤ known_free c.slots_beside-2.new.producer = search rules in
    stands_looked c.args.feed.now c.args.rail.now c.slots_beside-2.new.producer c.requires.stands same more

pub returns-in-Next-clause-waits : goal.returns-in-Next-clause-waits
returns-in-Next-clause-waits g c =
    let reached : HasReached c.match-ahead.source c.match-ahead.ahead (received c.slots_beside-2.new.self) = search rules in (
      known c.match-ahead.source ++ (settled (known_items c.slots_beside-2.new.self) ++ in_use c.args.feed.now),
      waits_over c.match-ahead.ahead c.match-ahead.source (received c.slots_beside-2.new.self) (known_items c.slots_beside-2.new.self) c.args.feed.now c.slots_beside-2.new.producer (next_not_open c.match-ahead.ahead c.in-Next.field-0 c.in-Next.is) reached c.slots_beside-2.ensures.fifo,
      tt,
    )

pub returns-in-Last-clause-waits : goal.returns-in-Last-clause-waits
returns-in-Last-clause-waits g c =
    let reached : HasReached c.match-ahead.source c.match-ahead.ahead (received c.slots_beside-2.new.self) = search rules in (
      known c.match-ahead.source ++ (settled (known_items c.slots_beside-2.new.self) ++ in_use c.args.feed.now),
      waits_over c.match-ahead.ahead c.match-ahead.source (received c.slots_beside-2.new.self) (known_items c.slots_beside-2.new.self) c.args.feed.now c.slots_beside-2.new.producer (last_not_open c.match-ahead.ahead c.in-Last.is) reached c.slots_beside-2.ensures.fifo,
      tt,
    )

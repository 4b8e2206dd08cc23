use Rattle.std.proofs.Common.{◌∙◌, sym}
use Rattle.rtrb.specs.Ring.{sent}
use Rattle.hub_line.proofs.Tracks.{end_over, posted_end, stands_over}
use Rattle.hub_line.proofs.poster.end_line.Goals as goal

pub returns-clause-stands : goal.returns-clause-stands
returns-clause-stands g c =
    stands_over c.take.new.self c.push_reserved.new.self c.take.ensures.after (end_over (sent c.args.rail.now) (sent c.push_reserved.new.self) c.in-Some.last c.push_reserved.ensures.sent.0)

pub returns-clause-over : goal.returns-clause-over
returns-clause-over g c =
    end_over (sent c.args.rail.now) (sent c.push_reserved.new.self) c.in-Some.last c.push_reserved.ensures.sent.0

pub returns-clause-same : goal.returns-clause-same
returns-clause-same g c =
    posted_end (sent c.args.rail.now) (sent c.push_reserved.new.self) c.in-Some.last c.args.feed.now c.take.new.self c.push_reserved.ensures.sent.0 (sym c.take.ensures.value ∙ c.in-Some.is) c.take.ensures.after

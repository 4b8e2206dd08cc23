use Rattle.std.proofs.Common.{sym, subst}
use Rattle.hub_queue.specs.Meetings.{AreTogether}
use Rattle.hub_queue.proofs.Together.{start_keeps}
use Rattle.hub_queue_tests.proofs.meetings.start.Goals as goal

pub returns : goal.returns
returns c = subst (AreTogether c.args.poster.now) (sym c.start.ensures) (start_keeps _ _ c.requires)

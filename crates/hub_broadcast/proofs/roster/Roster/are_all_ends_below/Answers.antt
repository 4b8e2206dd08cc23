use Rattle.std.proofs.Common.{refl}
use Rattle.hub_broadcast.proofs.Ranking.{below_read}
use Rattle.hub_broadcast.proofs.roster.Roster.are_all_ends_below.Goals as goal

pub returns-in-Some : goal.returns-in-Some
returns-in-Some c = below_read _ c.args.end.0 _ _ _ _ _ c.self.view_is c.deref.ensures.value c.self.invariant c.in-Some.ensures.item.3.0 c.in-Some.ensures.item.1 c.id.ensures refl

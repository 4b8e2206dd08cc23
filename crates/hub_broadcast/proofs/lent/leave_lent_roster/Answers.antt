use Rattle.std.proofs.Common.{rules, filter, not}
use Rattle.hub_broadcast.specs.Destinations.{is_of_end}
use Rattle.hub_locked.proofs.Doing.{done_as}
use Rattle.hub_broadcast.proofs.lent.leave_lent_roster.Goals as goal

pub returns : goal.returns
returns g c = done_as (filter (λ s. not (is_of_end c.args.end s))) _ (λ was now d. search rules) _ _ c.lend.ensures.shown

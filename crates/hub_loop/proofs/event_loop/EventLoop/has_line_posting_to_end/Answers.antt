use Rattle.std.proofs.Common.{◌≡◌, ◌∙◌, subst, sym}
use Rattle.hub_loop.specs.Looking.{Holds}
use Rattle.hub_loop.specs.declared.held.Held.TheVariants.{Line}
use Rattle.hub_queue.specs.Standing.{StandSeat}
use Rattle.hub_loop.proofs.Looks.{line-found}
use Rattle.hub_loop.proofs.event_loop.EventLoop.has_line_posting_to_end.Goals as goal

pub returns-clause-some : goal.returns-clause-some
returns-clause-some g c found =
    subst (λ l. (line : StandSeat) × Holds l.holding.ends.held (Line line) × (line.name.end ≡ c.args.end)) c.self.view_is
    (line-found c.self.inside.holding.ends.held c.args.end c.find_line_for_destination.result c.find_line_for_destination.ensures (sym c.is_some.ensures ∙ found))

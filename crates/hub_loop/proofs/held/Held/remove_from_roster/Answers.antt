use Rattle.std.proofs.Common.{◌≡◌, ◌∙◌, ap, sym, subst, filter, not}
use Rattle.std.specs.Option.{option_map}
use Rattle.hub_broadcast.specs.Destinations.{is_of_end}
use Rattle.hub_loop.specs.Closing.{left_by}
use Rattle.hub_loop.proofs.held.Held.remove_from_roster.Goals as goal

pub returns-in-Member : goal.returns-in-Member
returns-in-Member g c =
    let was = g.L.Lends.shown c.args.roster.now in
    subst (λ held. g.L.Lends.shown c.leave_lent_roster.new.lender ≡ left_by held was) (sym c.in-Member.is)
    (c.leave_lent_roster.ensures ∙ ap (λ end. option_map (filter (λ s. not (is_of_end (record { 0 = end }) s))) was) c.id.ensures)

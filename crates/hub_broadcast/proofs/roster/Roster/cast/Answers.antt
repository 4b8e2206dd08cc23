use Rattle.std.proofs.Common.{◌≡◌, ap, arith, drop, length, subst, sym, ◌∙◌}
use Rattle.hub_envelope.specs.declared.limits.TheConstants.{MAX_ENDS}
use Rattle.hub_broadcast.specs.Destinations.{destinations_in}
use Rattle.hub_broadcast.specs.Rising.{IsRising}
use Rattle.hub_broadcast.proofs.Casts.{cast_to, written_back}
use Rattle.hub_broadcast.proofs.Ranking.{are_destinations, keeps_order}
use Rattle.hub_broadcast.proofs.roster.Roster.cast.Goals as goal

pub invariant_of-self-2 : goal.invariant_of-self-2
invariant_of-self-2 g c =
    let rising = subst (IsRising MAX_ENDS) (sym c.as_mut_slice-subscriptions.ensures.value) c.self.invariant in
    let full : length c.cast_to_destinations.new.subscriptions ≡ c.self.inside.subscriptions.len = omega (arith, c.self.inside.subscriptions.ok.0, c.cast_to_destinations.auto.subscriptions, ap length c.as_mut_slice-subscriptions.ensures.value) in
    let written = written_back c.self.inside.subscriptions.len c.cast_to_destinations.new.subscriptions (drop (length c.cast_to_destinations.new.subscriptions) c.self.inside.subscriptions.items) full in
    subst (IsRising MAX_ENDS) (sym written) (keeps_order.cast MAX_ENDS c.args.source.now _ _ _ _ c.in_ok-cast_to_destinations.ensures.ok rising)

pub returns-clause-to : goal.returns-clause-to
returns-clause-to g c = cast_to c.args.source.now _ _ _ _ c.in_ok-cast_to_destinations.ensures.ok ∙ ap (destinations_in c.args.source.now) (c.as_mut_slice-subscriptions.ensures.value ∙ c.self.view_is)

pub returns-clause-destinations : goal.returns-clause-destinations
returns-clause-destinations g c =
    are_destinations c.args.source.now _ _ _ _ c.in_ok-cast_to_destinations.ensures.ok (subst (IsRising MAX_ENDS) (sym c.as_mut_slice-subscriptions.ensures.value) c.self.invariant)

use Rattle.std.proofs.Common.{rules, ap, filter, not, subst, sym, ◌∙◌}
use Rattle.std.proofs.lemmas.Fn.{filter_same}
use Rattle.hub_envelope.specs.declared.limits.TheConstants.{MAX_ENDS}
use Rattle.hub_broadcast.specs.Destinations.{is_of_end}
use Rattle.hub_broadcast.specs.Rising.{IsRising}
use Rattle.hub_broadcast.proofs.Ranking.{keeps_order}
use Rattle.hub_broadcast.proofs.roster.Roster.leave.Goals as goal

pub invariant_of-self : goal.invariant_of-self
invariant_of-self c =
    let left = filter_same _ (λ s. not (is_of_end c.args.end s)) _ (λ x b f' k. search rules) _ _ c.retain.ensures.filtered in
    subst (IsRising MAX_ENDS) (sym left) (keeps_order.leave MAX_ENDS c.args.end c.self.inside.subscriptions.items c.self.invariant)

pub returns : goal.returns
returns c = filter_same _ (λ s. not (is_of_end c.args.end s)) _ (λ x b f' k. search rules) _ _ c.retain.ensures.filtered ∙ ap (filter (λ s. not (is_of_end c.args.end s))) c.self.view_is

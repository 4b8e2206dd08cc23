use Rattle.std.proofs.Common.{string_bytes, ◌++◌, ◌∷◌, [], ◌∙◌, ap, arith}
use Rattle.hub_envelope.specs.declared.limits.TheConstants.{MAX_ENDS}
use Rattle.hub_broadcast.proofs.Joins.{only_poster, popped_last}
use Rattle.hub_broadcast.proofs.Naming.{only_named}
use Rattle.hub_broadcast.proofs.Ranking.{joined_rises}
use Rattle.hub_broadcast.proofs.roster.Roster.join.Goals as goal

pub invariant_of-subscription : goal.invariant_of-subscription
invariant_of-subscription c = (only_named _ _ _ _ _ c.in_ok-taker.ensures (popped_last _ _ _ _ c.pop.ensures.items c.unwrap.ensures)).0

pub invariant_of-self-2 : goal.invariant_of-self-2
invariant_of-self-2 c =
    let named = only_named _ _ _ _ _ c.in_ok-taker.ensures (popped_last _ _ _ _ c.pop.ensures.items c.unwrap.ensures) in
    joined_rises MAX_ENDS c.in-Some.end.0 _ _ _ _ _ _ c.if-not-are_all_ends_below.false c.are_all_ends_below.ensures c.self.view_is c.reserve.ensures.items c.push_reserved.ensures.items c.self.invariant (ap (λ e. e.0) named.1) (omega (arith, c.in-Some.ensures.least, c.in-Some.ensures.few))

pub returns-clause-ok : goal.returns-clause-ok
returns-clause-ok c = record {
  is_new = record {
    opened = c.in_ok-taker.taker;
    poster = c.unwrap.result;
    mailbox = only_poster _ c.in-Some.end _ _ _ _ c.in-Some.ensures.least c.in_ok-taker.ensures (popped_last _ _ _ _ c.pop.ensures.items c.unwrap.ensures);
    member = (λ i. record { taker = c.start.ensures i; agent = c.args.agent; origin = c.args.origin; name = string_bytes c.args.name });
  };
  roster = c.push_reserved.ensures.items ∙ (λ i. (c.reserve.ensures.items ∙ c.self.view_is) i ++ record { origin = c.in_ok-clone.ensures.cases i; name = c.in_ok-clone-2.ensures.cases i; poster = c.unwrap.result } ∷ []);
}

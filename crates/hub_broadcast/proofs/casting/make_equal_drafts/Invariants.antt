use Rattle.std.proofs.Common.{◌≡◌, All, vec_len}
use Rattle.hub_broadcast.specs.Casting.{cast_draft}
use Rattle.hub_broadcast.proofs.casting.make_equal_drafts.Given as goal

abbrev pub invariant-loop : goal.invariant-loop
invariant-loop l = record {
  len : vec_len l.drafts ≡ l.counter;
  same : All (λ draft. draft ≡ cast_draft l.source l.body) l.drafts.items;
}

use Rattle.std.proofs.Common.{rules, ◌≡◌, ◌≢◌, ◌<◌, ◌↔◌, All, Any, IsErrOf, length}
use Rattle.hub_broadcast.specs.declared.error.CastError.TheVariants.{InvalidState, NotTransferable}
use Rattle.hub_locked.proofs.Doing.{called_of}
use Rattle.hub_broadcast.proofs.lent.cast_in_lent_roster.Goals as goal

pub returns-clause-invalid : goal.returns-clause-invalid
returns-clause-invalid g c =
    called_of _ _ _ (λ was. IsErrOf c.lend.result InvalidState ↔ All (λ s. s.poster.name.end.0 ≢ c.args.source.now.taker.end) was) (λ a b met. search rules) _ _ c.lend.ensures.shown

pub returns-clause-list : goal.returns-clause-list
returns-clause-list g c =
    called_of _ _ _ (λ was. IsErrOf c.lend.result NotTransferable ↔ (Any (λ s. s.poster.name.end.0 ≡ c.args.source.now.taker.end) was × (0 < length c.args.list.now))) (λ a b met. search rules) _ _ c.lend.ensures.shown

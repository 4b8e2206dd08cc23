use Rattle.std.proofs.Common.{◌∙◌, inr, refl, sym, ap, subst}
use Rattle.hub_loop.specs.Ending.{closing_ends, still_open, swept_ends}
use Rattle.hub_loop.specs.Looping.{HasEnded}
use Rattle.hub_loop.proofs.Endings.{all-swept, ended-further}
use Rattle.hub_loop.proofs.event_loop.EventLoop.end.Goals as goal

pub returns-in-Ok-finish-clause-ok : goal.returns-in-Ok-finish-clause-ok
returns-in-Ok-finish-clause-ok g c =
    let old = c.args.self in
    let begun = c.in-Ok.closing in
    let done = c.finish.new.self in
    let further = ended-further old.closing old.holding.closed.graves (still_open old.holding.ends.held old.fetched old.kept) (closing_ends begun) (closing_ends done) old.holding.closed.noticed begun.noticed done.noticed c.in-Ok.ensures.ok c.in-Ok-finish.ensures.further in
    subst (HasEnded old (swept_ends c.into_ended.result.swept.items)) (sym c.into_ended.ensures.noticed)
    (subst (λ numbers. HasEnded old numbers done.noticed) (all-swept done c.in-Ok-finish.ensures.all ∙ ap swept_ends (sym c.into_ended.ensures.swept)) further)

pub returns-in-Err-finish-clause-err : goal.returns-in-Err-finish-clause-err
returns-in-Err-finish-clause-err g c =
    let old = c.args.self in
    let begun = c.in-Ok.closing in
    let done = c.finish.new.self in
    inr (
      done,
      refl,
      ended-further old.closing old.holding.closed.graves (still_open old.holding.ends.held old.fetched old.kept) (closing_ends begun) (closing_ends done) old.holding.closed.noticed begun.noticed done.noticed c.in-Ok.ensures.ok c.in-Err-finish.ensures.further,
    )

use Rattle.std.proofs.Common.{sym, subst}
use Rattle.hub_steps.specs.Performed.{ComputesAt}
use Rattle.hub_steps.specs.Unfolding.{close}
use Rattle.hub_steps.proofs.Computing.{closed_on}
use Rattle.hub_steps.proofs.closing.close_end.Goals as goal

pub returns : goal.returns
returns c =
    let refused = c.args.memory_refused in
    subst (λ shown. ComputesAt c.args.core.now c.take_core_step-2.new.core (close refused c.args.end) shown) (sym c.shown_by_closing_outcomes.ensures)
    (closed_on c.args.core.now c.enter_and_put_notice.new.core c.take_core_step.new.core c.take_core_step-2.new.core refused c.args.end c.in-Some.line c.in_ok-told.told c.in_ok-take_core_step.field-0 c.in_ok-closed.closed c.in-Some.ensures c.in_ok-told.ensures c.in_ok-take_core_step.ensures.answer c.in_ok-closed.ensures.answer)

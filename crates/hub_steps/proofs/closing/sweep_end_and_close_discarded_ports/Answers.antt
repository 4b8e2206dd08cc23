use Rattle.std.proofs.Common.{sym, subst}
use Rattle.hub_core.specs.declared.step.Action.TheVariants as action
use Rattle.hub_core.specs.declared.step.Outcome.TheVariants as outcome
use Rattle.hub_steps.specs.declared.shown.Shown.TheVariants.{Answer}
use Rattle.hub_steps.specs.Computation.{step}
use Rattle.hub_steps.specs.Performed.{ComputesAt}
use Rattle.hub_steps.specs.Unfolding.{close_ports, sweep}
use Rattle.hub_steps.proofs.Computing.{swept_discarded, swept_nothing}
use Rattle.hub_steps.proofs.closing.sweep_end_and_close_discarded_ports.Goals as goal
use Rattle.hub_steps.proofs.closing.sweep_end_and_close_discarded_ports.Goals.{in-Discarded+in_ok-close_ports_of_envelopes, in_default}

pub returns : goal.returns
returns c =
    let refused = c.args.memory_refused in
    let e = c.args.end in
    let old = c.args.core.now in
    let first = c.take_core_step.new.core in
    let last = c.match-answer.core in
    let answer = c.in_ok-answer.answer in
    elim c.match-answer.branch [
      | in-Discarded+in_ok-close_ports_of_envelopes w ↦
          let vs = w.in-Discarded.envelopes in
          let swept = subst (λ o. ComputesAt old first (step refused (action.Sweep e)) o) w.in-Discarded.is c.in_ok-answer.ensures.answer in
          let closed = subst (λ us. ComputesAt first w.close_ports_of_envelopes.new.core (close_ports refused us) tt) w.as_slice.ensures w.in_ok-close_ports_of_envelopes.ensures in
          subst (λ o. ComputesAt old last (sweep refused e) (Answer o)) (sym w.in-Discarded.is)
          (subst (λ core. ComputesAt old core (sweep refused e) (Answer (outcome.Discarded vs))) (sym w.core-is) (swept_discarded old first w.close_ports_of_envelopes.new.core refused e vs swept closed))
      | in_default w ↦
          subst (λ core. ComputesAt old core (sweep refused e) (Answer answer)) (sym w.core-is) (swept_nothing old first refused e answer w.in_default.not-Discarded c.in_ok-answer.ensures.answer)
    ]

use Rattle.std.proofs.Common.{◌≡◌, sym, subst, ◌∙◌, arith}
use Rattle.std.proofs.lemmas.Bool.{false≢true}
use Rattle.hub_core.specs.declared.step.Action.TheVariants as action
use Rattle.hub_core.specs.declared.step.Outcome.TheVariants as outcome
use Rattle.hub_steps.specs.Computation.{step}
use Rattle.hub_steps.specs.Performed.{ComputesAt}
use Rattle.hub_steps.proofs.Computing.{hopped_none, hopped_more, hopped_done, hopped_end}
use Rattle.hub_steps.proofs.entering.enter_queue_or_hop_to_later_one.Goals as goal
use Rattle.hub_steps.proofs.entering.enter_queue_or_hop_to_later_one.Goals.{in-Moved, in_default}

pub loop-hop-init : goal.loop-hop-init
loop-hop-init c = hopped_none c.args.core.now c.args.memory_refused c.args.sender

pub returns-then-not-matches : goal.returns-then-not-matches
returns-then-not-matches c =
    let other : c.in_ok-entered.entered ≡ outcome.Moved → ⊥ = elim c.match-matches.branch [ in-Moved w ↦ λ is. absurd (false≢true (sym c.if-not-matches.true ∙ w.matches-is)) | in_default w ↦ w.in_default.not-Moved ] in
    hopped_done c.loop-hop._hop c.args.core.now c.loop-hop.core c.take_core_step.new.core c.args.memory_refused c.args.sender c.in_ok-entered.entered c.loop-hop.invariant c.loop-hop-test.true other c.in_ok-entered.ensures.answer

pub loop-hop-preserved : goal.loop-hop-preserved
loop-hop-preserved c =
    let refused = c.args.memory_refused in
    let s = c.args.sender in
    let moved : c.in_ok-entered.entered ≡ outcome.Moved = elim c.match-matches.branch [ in-Moved w ↦ w.in-Moved.is | in_default w ↦ absurd (false≢true (sym w.matches-is ∙ c.if-not-matches.false)) ] in
    hopped_more c.loop-hop._hop c.args.core.now c.loop-hop.core c.take_core_step.new.core c.take_core_step-in-loop-hop.new.core c.take_core_step-in-loop-hop-2.new.core refused s c.in_ok-take_core_step.field-0 c.in_ok-take_core_step-2.field-0 c.loop-hop.invariant
    (subst (λ o. ComputesAt c.loop-hop.core c.take_core_step.new.core (step refused (action.Enter s)) o) moved c.in_ok-entered.ensures.answer) c.in_ok-take_core_step.ensures.answer c.in_ok-take_core_step-2.ensures.answer

pub returns : goal.returns
returns c =
    let all : c.loop-hop._hop ≡ 4 = omega arith in
    hopped_end c.loop-hop._hop c.args.core.now c.loop-hop.core c.take_core_step-2.new.core c.args.memory_refused c.args.sender c.take_core_step-2.result c.loop-hop.invariant all c.take_core_step-2.ensures.answer

-- A step more makes the history one pair longer.
use Rattle.std.proofs.Common.{◌≡◌, ◌+◌, [], ◌∷◌, ◌++◌, sym, ap, subst, ◌∙◌, length, length-append}
use Rattle.hub_core.proofs.Words.{zip, History, Shows}
use Rattle.hub_core.proofs.Sames.{zip_one}
use Rattle.hub_core.proofs.machine.Core.step_all.Goals as goal

pub loop-step-preserved : goal.loop-step-preserved
loop-step-preserved c =
    let past : History = zip c.loop-step.yielded c.loop-step.outcomes.items in
    let both = c.in_ok-outcome.ensures past c.loop-step.invariant.shows in
    let items : c.push.new.self.items ≡ c.loop-step.outcomes.items ++ c.in_ok-outcome.outcome ∷ [] = c.in_ok-push.ensures.items in
    let longer : zip (c.loop-step.yielded ++ c.in-Some.step ∷ []) c.push.new.self.items ≡ past ++ (c.in-Some.step, c.in_ok-outcome.outcome) ∷ [] =
    ap (zip (c.loop-step.yielded ++ c.in-Some.step ∷ [])) items ∙ zip_one c.loop-step.yielded c.loop-step.outcomes.items c.in-Some.step c.in_ok-outcome.outcome c.loop-step.invariant.each in
    record {
      each = ap length items ∙ length-append c.loop-step.outcomes.items (c.in_ok-outcome.outcome ∷ []) ∙ ap (λ n. n + 1) c.loop-step.invariant.each ∙ sym (length-append c.loop-step.yielded (c.in-Some.step ∷ []));
      shows = subst (Shows c.step_not_inlined.new.self) (sym longer) both.1;
    }

pub loop-step-init : goal.loop-step-init
loop-step-init c = record { each = ap length c.in_ok-outcomes.ensures.items; shows = c.requires }

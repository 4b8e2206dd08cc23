use Rattle.std.proofs.Common.{◌≡◌, ◌+◌, ◌++◌, ◌∷◌, [], sym, subst, ◌∙◌, arith, inl, inr}
use Rattle.hub_text.specs.TextLines.{text_lines_of}
use Rattle.hub_steps.specs.Steps.{steps_from}
use Rattle.hub_steps.specs.UnderWay.{with_front}
use Rattle.hub_steps.proofs.Numbered.{starts_reading, goes_on, is_bad, is_done, no_lines}
use Rattle.hub_steps.proofs.engine.check_step_lines.Goals as goal

pub loop-rest-init : goal.loop-rest-init
loop-rest-init c = record { so_far = ([], starts_reading (steps_from (c.args.before + 1) (text_lines_of c.args.text.now))); room = omega arith }

pub returns-in-Err-clause-err : goal.returns-in-Err-clause-err
returns-in-Err-clause-err c =
    let front = c.loop-rest.invariant.so_far in
    elim c.in-Err.ensures.read [
      | inl h ↦ inl h
      | inr h ↦ inr (is_bad front.0 (c.loop-rest.number + 1) (text_lines_of c.loop-rest.rest.now) (text_lines_of c.split_off_first_text_line.result.1.now) c.split_off_first_text_line.result.0.now c.in-Err.error (steps_from (c.args.before + 1) (text_lines_of c.args.text.now)) c.split_off_first_text_line.ensures.line h front.1)
    ]

pub loop-rest-preserved : goal.loop-rest-preserved
loop-rest-preserved c =
    let front = c.loop-rest.invariant.so_far in
    record {
      so_far = (front.0 ++ c.in-Ok.line ∷ [], goes_on front.0 (c.loop-rest.number + 1) (text_lines_of c.loop-rest.rest.now) (text_lines_of c.split_off_first_text_line.result.1.now) c.split_off_first_text_line.result.0.now c.in-Ok.line (steps_from (c.args.before + 1) (text_lines_of c.args.text.now)) c.split_off_first_text_line.ensures.line c.in-Ok.ensures.read front.1);
      room = omega arith;
    }

pub returns-clause-ok : goal.returns-clause-ok
returns-clause-ok c =
    let front = c.loop-rest.invariant.so_far in
    (front.0, is_done front.0 (c.loop-rest.number + 1) (steps_from (c.args.before + 1) (text_lines_of c.args.text.now)) (subst (λ xs. with_front front.0 (steps_from (c.loop-rest.number + 1) xs) ≡ steps_from (c.args.before + 1) (text_lines_of c.args.text.now)) (no_lines c.loop-rest.rest.now (sym c.is_empty.ensures ∙ c.loop-rest-test.false)) front.1))

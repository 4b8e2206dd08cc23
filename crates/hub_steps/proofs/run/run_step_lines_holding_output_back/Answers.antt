use Rattle.std.proofs.Common.{◌+◌, ◌++◌, ◌∷◌, [], refl, sym, subst, arith, inl, inr}
use Rattle.hub_text.specs.TextLines.{text_lines_of}
use Rattle.hub_steps.specs.Steps.{steps_of}
use Rattle.hub_steps.specs.UnderWay.{AreRun}
use Rattle.hub_steps.proofs.Numbered.{starts_reading, goes_on, is_bad}
use Rattle.hub_steps.proofs.Running.{err_says, ok_says, runs_on}
use Rattle.hub_steps.proofs.run.run_step_lines_holding_output_back.Goals as goal

pub loop-run-init : goal.loop-run-init
loop-run-init c = record { run = ([], c.new-run.ensures, starts_reading (steps_of c.args.input.now)); room = omega arith }

pub loop-run-preserved : goal.loop-run-preserved
loop-run-preserved c =
    let so_far = c.loop-run.invariant.run in
    let x = ok_says c.run_step_line_and_keep_outcome.result _ c.is_err.result c.is_err.ensures.value c.if-is_err.false c.run_step_line_and_keep_outcome.ensures.ok in
    record {
      run = (
        so_far.0 ++ c.in-Ok.line ∷ [],
        runs_on c.loop-run.run.core c.run_step_line_and_keep_outcome.new.self.core c.loop-run.run.lives c.run_step_line_and_keep_outcome.new.self.lives c.loop-run.run.kept.items c.run_step_line_and_keep_outcome.new.self.kept.items so_far.0 c.in-Ok.line x.0 so_far.1 x.1 x.2 x.3,
        goes_on so_far.0 (c.loop-run.number + 1) (text_lines_of c.loop-run.rest.now) (text_lines_of c.split_off_first_text_line.result.1.now) c.split_off_first_text_line.result.0.now c.in-Ok.line (steps_of c.args.input.now) c.split_off_first_text_line.ensures.line c.in-Ok.ensures.read so_far.2,
      );
      room = omega arith;
    }

pub returns-in-Err-clause-err : goal.returns-in-Err-clause-err
returns-in-Err-clause-err c =
    let so_far = c.loop-run.invariant.run in
    elim c.in-Err.ensures.read [
      | inl h ↦ inl h
      | inr h ↦ inr (is_bad so_far.0 (c.loop-run.number + 1) (text_lines_of c.loop-run.rest.now) (text_lines_of c.split_off_first_text_line.result.1.now) c.split_off_first_text_line.result.0.now c.in-Err.error (steps_of c.args.input.now) c.split_off_first_text_line.ensures.line h so_far.2)
    ]

-- memory ran out
pub returns-then-is_err-clause-held : goal.returns-then-is_err-clause-held
returns-then-is_err-clause-held c =
    let so_far = c.loop-run.invariant.run in
    let same = err_says c.run_step_line_and_keep_outcome.result _ c.is_err.result c.is_err.ensures.value c.if-is_err.true c.run_step_line_and_keep_outcome.ensures.err in
    record {
      front = so_far.0;
      core = c.loop-run.run.core;
      lives = c.loop-run.run.lives;
      run = subst (λ k. AreRun c.loop-run.run.core c.loop-run.run.lives k so_far.0) (sym same) so_far.1;
      left = so_far.2;
      current = λ e. cc;
    }

pub returns-clause-held : goal.returns-clause-held
returns-clause-held c =
    let so_far = c.loop-run.invariant.run in
    record { front = so_far.0; core = c.loop-run.run.core; lives = c.loop-run.run.lives; run = so_far.1; left = so_far.2; current = λ e. (refl, refl) }

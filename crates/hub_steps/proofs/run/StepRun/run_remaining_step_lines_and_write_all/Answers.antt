use Rattle.std.proofs.Common.{◌++◌, refl, sym, ◌∙◌}
use Rattle.std.proofs.lemmas.Result.{err_from_is_err_and}
use Rattle.hub_text.specs.TextLines.{text_lines_of}
use Rattle.hub_engine.specs.declared.status.ExitStatus.TheVariants as exit
use Rattle.hub_engine.proofs.Writing.{stops}
use Rattle.hub_steps.specs.Output.{IsRunOutput}
use Rattle.hub_steps.proofs.Numbered.{no_lines}
use Rattle.hub_steps.proofs.Running.{err_says, ok_says}
use Rattle.hub_steps.proofs.UnderWay.{sets_out, goes_on, goes_out, is_told, is_begun, is_unflushed, is_cut}
use Rattle.hub_steps.proofs.run.StepRun.run_remaining_step_lines_and_write_all.Goals as goal

pub loop-rest-init : goal.loop-rest-init
loop-rest-init g c = record {
  run = λ front back n run left. sets_out (text_lines_of c.args.rest.now) (g.W.Write.contents c.args.writer.now.writer) c.args.self.now.core c.args.self.now.lives c.args.self.now.kept.items front back n run left;
  failures = refl;
  flushes = refl;
}

pub loop-rest-preserved-in-Continue-1 : goal.loop-rest-preserved-in-Continue-1
loop-rest-preserved-in-Continue-1 g c =
    let contents = g.W.Write.contents in
    let x = ok_says c.run_step_line_and_keep_outcome.result _ c.is_err.result c.is_err.ensures.value c.if-is_err.false c.run_step_line_and_keep_outcome.ensures.ok in
    record {
      run = λ front back n run left.
          let u = goes_on (front ++ back) (text_lines_of c.loop-rest.rest.now) (text_lines_of c.split_off_first_text_line.result.1.now) c.split_off_first_text_line.result.0.now c.in-Ok.line (contents c.args.writer.now.writer) (contents c.loop-rest.writer.writer) c.loop-rest.self.core c.run_step_line_and_keep_outcome.new.self.core c.loop-rest.self.lives c.run_step_line_and_keep_outcome.new.self.lives c.loop-rest.self.kept.items c.run_step_line_and_keep_outcome.new.self.kept.items c.split_off_first_text_line.ensures.line c.in-Ok.ensures.read (c.loop-rest.invariant.run front back n run left) x in
          goes_out (front ++ back) (text_lines_of c.split_off_first_text_line.result.1.now) (contents c.args.writer.now.writer) (contents c.loop-rest.writer.writer) (contents c.write_and_clear_kept.new.writer.writer) c.run_step_line_and_keep_outcome.new.self.core c.run_step_line_and_keep_outcome.new.self.lives c.run_step_line_and_keep_outcome.new.self.kept.items c.write_and_clear_kept.new.kept.items u c.in_ok-write_and_clear_kept.ensures.ok c.in_ok-write_and_clear_kept.ensures.kept;
      failures = c.in_ok-write_and_clear_kept.ensures.failures ∙ c.loop-rest.invariant.failures;
      flushes = c.in_ok-write_and_clear_kept.ensures.flushes ∙ c.loop-rest.invariant.flushes;
    }

pub loop-rest-preserved : goal.loop-rest-preserved
loop-rest-preserved g c =
    let contents = g.W.Write.contents in
    let x = ok_says c.run_step_line_and_keep_outcome.result _ c.is_err.result c.is_err.ensures.value c.if-is_err.false c.run_step_line_and_keep_outcome.ensures.ok in
    record {
      run = λ front back n run left. goes_on (front ++ back) (text_lines_of c.loop-rest.rest.now) (text_lines_of c.split_off_first_text_line.result.1.now) c.split_off_first_text_line.result.0.now c.in-Ok.line (contents c.args.writer.now.writer) (contents c.loop-rest.writer.writer) c.loop-rest.self.core c.run_step_line_and_keep_outcome.new.self.core c.loop-rest.self.lives c.run_step_line_and_keep_outcome.new.self.lives c.loop-rest.self.kept.items c.run_step_line_and_keep_outcome.new.self.kept.items c.split_off_first_text_line.ensures.line c.in-Ok.ensures.read (c.loop-rest.invariant.run front back n run left) x;
      failures = c.loop-rest.invariant.failures;
      flushes = c.loop-rest.invariant.flushes;
    }

-- a step line that was tested found no memory when it was read again
pub returns-in_default-clause-written : goal.returns-in_default-clause-written
returns-in_default-clause-written g c = λ front back n run left.
    let contents = g.W.Write.contents in
    is_cut (front ++ back) (text_lines_of c.loop-rest.rest.now) (contents c.args.writer.now.writer) (contents c.loop-rest.writer.writer) (contents c.finish_output_out_of_memory.new.writer.writer) c.loop-rest.self.core c.loop-rest.self.lives c.loop-rest.self.kept.items c.loop-rest.self.kept.items c.finish_output_out_of_memory.result refl (c.loop-rest.invariant.run front back n run left) c.finish_output_out_of_memory.ensures.written

pub returns-then-is_err-clause-written : goal.returns-then-is_err-clause-written
returns-then-is_err-clause-written g c = λ front back n run left.
    let contents = g.W.Write.contents in
    let same = err_says c.run_step_line_and_keep_outcome.result _ c.is_err.result c.is_err.ensures.value c.if-is_err.true c.run_step_line_and_keep_outcome.ensures.err in
    is_cut (front ++ back) (text_lines_of c.loop-rest.rest.now) (contents c.args.writer.now.writer) (contents c.loop-rest.writer.writer) (contents c.finish_output_out_of_memory-then-is_err.new.writer.writer) c.loop-rest.self.core c.loop-rest.self.lives c.loop-rest.self.kept.items c.run_step_line_and_keep_outcome.new.self.kept.items c.finish_output_out_of_memory-then-is_err.result same (c.loop-rest.invariant.run front back n run left) c.finish_output_out_of_memory-then-is_err.ensures.written

pub returns-in_err-write_and_clear_kept-clause-written : goal.returns-in_err-write_and_clear_kept-clause-written
returns-in_err-write_and_clear_kept-clause-written g c = λ front back n run left.
    let contents = g.W.Write.contents in
    let x = ok_says c.run_step_line_and_keep_outcome.result _ c.is_err.result c.is_err.ensures.value c.if-is_err.false c.run_step_line_and_keep_outcome.ensures.ok in
    let u = goes_on (front ++ back) (text_lines_of c.loop-rest.rest.now) (text_lines_of c.split_off_first_text_line.result.1.now) c.split_off_first_text_line.result.0.now c.in-Ok.line (contents c.args.writer.now.writer) (contents c.loop-rest.writer.writer) c.loop-rest.self.core c.run_step_line_and_keep_outcome.new.self.core c.loop-rest.self.lives c.run_step_line_and_keep_outcome.new.self.lives c.loop-rest.self.kept.items c.run_step_line_and_keep_outcome.new.self.kept.items c.split_off_first_text_line.ensures.line c.in-Ok.ensures.read (c.loop-rest.invariant.run front back n run left) x in
    let t = is_begun (front ++ back) (text_lines_of c.split_off_first_text_line.result.1.now) (contents c.args.writer.now.writer) (contents c.loop-rest.writer.writer) (contents c.write_and_clear_kept.new.writer.writer) c.run_step_line_and_keep_outcome.new.self.core c.run_step_line_and_keep_outcome.new.self.lives c.run_step_line_and_keep_outcome.new.self.kept.items u c.in_err-write_and_clear_kept.ensures.err in
    let p = err_from_is_err_and c.from_residual.result c.from_residual.ensures.1 in
    stops (IsRunOutput (front ++ back)) _ _ c.from_residual.result p.0 exit.OutOfMemory t.0 p.1 t.1 t.2

pub returns-in_err-write_and_clear_kept-2-clause-written : goal.returns-in_err-write_and_clear_kept-2-clause-written
returns-in_err-write_and_clear_kept-2-clause-written g c = λ front back n run left.
    let contents = g.W.Write.contents in
    let t = is_begun (front ++ back) (text_lines_of c.loop-rest.rest.now) (contents c.args.writer.now.writer) (contents c.loop-rest.writer.writer) (contents c.write_and_clear_kept-2.new.writer.writer) c.loop-rest.self.core c.loop-rest.self.lives c.loop-rest.self.kept.items (c.loop-rest.invariant.run front back n run left) c.in_err-write_and_clear_kept-2.ensures.err in
    let p = err_from_is_err_and c.from_residual-in_err-write_and_clear_kept-2.result c.from_residual-in_err-write_and_clear_kept-2.ensures.1 in
    stops (IsRunOutput (front ++ back)) _ _ c.from_residual-in_err-write_and_clear_kept-2.result p.0 exit.OutOfMemory t.0 p.1 t.1 t.2

pub returns-in_err-flush-clause-written : goal.returns-in_err-flush-clause-written
returns-in_err-flush-clause-written g c = λ front back n run left.
    let contents = g.W.Write.contents in
    let u = goes_out (front ++ back) (text_lines_of c.loop-rest.rest.now) (contents c.args.writer.now.writer) (contents c.loop-rest.writer.writer) (contents c.write_and_clear_kept-2.new.writer.writer) c.loop-rest.self.core c.loop-rest.self.lives c.loop-rest.self.kept.items c.write_and_clear_kept-2.new.kept.items (c.loop-rest.invariant.run front back n run left) c.in_ok-write_and_clear_kept-2.ensures.ok c.in_ok-write_and_clear_kept-2.ensures.kept in
    let t = is_unflushed (front ++ back) (text_lines_of c.loop-rest.rest.now) (contents c.args.writer.now.writer) (contents c.write_and_clear_kept-2.new.writer.writer) (contents c.flush.new.self.writer) c.loop-rest.self.core c.loop-rest.self.lives c.write_and_clear_kept-2.new.kept.items u c.in_ok-write_and_clear_kept-2.ensures.kept c.flush.ensures.kept in
    let p = err_from_is_err_and c.from_residual-in_err-flush.result c.from_residual-in_err-flush.ensures.1 in
    stops (IsRunOutput (front ++ back)) _ _ c.from_residual-in_err-flush.result p.0 exit.OutOfMemory t.0 p.1 t.1 t.2

pub returns-clause-written : goal.returns-clause-written
returns-clause-written g c = λ front back n run left.
    let contents = g.W.Write.contents in
    let u = goes_out (front ++ back) (text_lines_of c.loop-rest.rest.now) (contents c.args.writer.now.writer) (contents c.loop-rest.writer.writer) (contents c.write_and_clear_kept-2.new.writer.writer) c.loop-rest.self.core c.loop-rest.self.lives c.loop-rest.self.kept.items c.write_and_clear_kept-2.new.kept.items (c.loop-rest.invariant.run front back n run left) c.in_ok-write_and_clear_kept-2.ensures.ok c.in_ok-write_and_clear_kept-2.ensures.kept in
    is_told (front ++ back) (text_lines_of c.loop-rest.rest.now) (contents c.args.writer.now.writer) (contents c.write_and_clear_kept-2.new.writer.writer) (contents c.flush.new.self.writer) c.loop-rest.self.core c.loop-rest.self.lives c.write_and_clear_kept-2.new.kept.items (no_lines c.loop-rest.rest.now (sym c.is_empty.ensures ∙ c.loop-rest-test.false)) u c.in_ok-write_and_clear_kept-2.ensures.kept c.flush.ensures.kept

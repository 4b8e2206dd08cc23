use Rattle.std.proofs.Common.{◌++◌, refl}
use Rattle.std.proofs.lemmas.Result.{err_from_is_err_and}
use Rattle.hub_engine.specs.declared.status.ExitStatus.TheVariants as exit
use Rattle.hub_engine.proofs.Writing.{stops}
use Rattle.hub_steps.specs.Output.{IsRunOutput}
use Rattle.hub_steps.proofs.Running.{cut_begun, cut_writes, sends}
use Rattle.hub_steps.proofs.run.StepRun.finish_output_out_of_memory.Goals as goal

-- a write failed, and what went out is a beginning of the text cut short
pub returns-in_err-write_and_clear_kept-clause-written : goal.returns-in_err-write_and_clear_kept-clause-written
returns-in_err-write_and_clear_kept-clause-written g c = λ old core lives front back told.
    let contents = g.W.Write.contents in
    let t = cut_begun old (contents c.args.writer.now.writer) (contents c.write_and_clear_kept.new.writer.writer) core lives c.args.self.now.kept.items front back (front ++ back) told refl c.in_err-write_and_clear_kept.ensures.err in
    let p = err_from_is_err_and c.from_residual.result c.from_residual.ensures.1 in
    stops (IsRunOutput (front ++ back)) _ _ c.from_residual.result p.0 exit.OutOfMemory t.0 p.1 t.1 t.2

pub returns-clause-written : goal.returns-clause-written
returns-clause-written g c = λ old core lives front back told.
    let contents = g.W.Write.contents in
    let sent = sends old (contents c.args.writer.now.writer) (contents c.write_and_clear_kept.new.writer.writer) core lives c.args.self.now.kept.items c.write_and_clear_kept.new.kept.items front told c.in_ok-write_and_clear_kept.ensures.ok c.in_ok-write_and_clear_kept.ensures.kept in
    cut_writes old (contents c.write_and_clear_kept.new.writer.writer) (contents c.write_out_of_memory.new.writer.writer) core lives c.write_and_clear_kept.new.kept.items front back (front ++ back) c.write_out_of_memory.result sent refl c.in_ok-write_and_clear_kept.ensures.kept c.write_out_of_memory.ensures.written

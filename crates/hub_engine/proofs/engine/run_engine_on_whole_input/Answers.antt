use Rattle.std.proofs.Common.{rules}
use Rattle.hub_engine.specs.declared.status.ExitStatus.TheVariants as exit
use Rattle.hub_engine.specs.OutOfMemory.{out_of_memory}
use Rattle.hub_engine.proofs.Bytes.{begins_nothing}
use Rattle.hub_engine.proofs.Outputs.{told, is_told}
use Rattle.hub_engine.proofs.Writing.{says_so, writes_weaker}
use Rattle.hub_engine.proofs.engine.run_engine_on_whole_input.Goals as goal

pub returns-in-Err-Device : goal.returns-in-Err-Device
returns-in-Err-Device g c =
    let known = g.R.Read.remaining c.args.reader.now.reader in
    record {
      written = (told known, is_told known, (exit.OutOfMemory, out_of_memory, g.E.Engine.wants_memory (told known), begins_nothing (g.W.Write.contents c.args.writer.now.writer) out_of_memory));
      failures = search rules;
      flushed = tt;
    }

pub returns-in-Err-OutOfMemory : goal.returns-in-Err-OutOfMemory
returns-in-Err-OutOfMemory g c =
    let known = g.R.Read.remaining c.args.reader.now.reader in
    let output = g.E.Engine.output (told known) in
    record {
      written = (told known, is_told known, writes_weaker _ output _ _ _ (says_so output exit.OutOfMemory out_of_memory (g.E.Engine.wants_memory (told known))) c.write_out_of_memory.ensures.written);
      failures = search rules;
      flushed = c.write_out_of_memory.ensures.flushed;
    }

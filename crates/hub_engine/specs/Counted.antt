-- Readers and writers that count what failed.
use Rattle.std.specs.Prelude.{ℕ}
use Rattle.hub_engine.specs.declared.counted_reader.CountedReader.{CountedReader}
use Rattle.hub_engine.specs.declared.counted_writer.CountedWriter.{CountedWriter}

abbrev pub inner_reader : {R : Type 0} → CountedReader R → R
inner_reader r = r.reader

-- the reads so far, interrupted ones among them
abbrev pub reads_made : {R : Type 0} → CountedReader R → ℕ
reads_made r = r.reads

-- those of them that were interrupted
abbrev pub interrupted_reads : {R : Type 0} → CountedReader R → ℕ
interrupted_reads r = r.interruptions

abbrev pub failed_reads : {R : Type 0} → CountedReader R → ℕ
failed_reads r = r.failures

abbrev pub inner_writer : {W : Type 0} → CountedWriter W → W
inner_writer w = w.writer

-- the writes and the flushes that the writer was asked for so far
abbrev pub writes_made : {W : Type 0} → CountedWriter W → ℕ
writes_made w = w.writes

abbrev pub flushes_made : {W : Type 0} → CountedWriter W → ℕ
flushes_made w = w.flushes

-- the writes and flushes that failed so far
abbrev pub failed_writes : {W : Type 0} → CountedWriter W → ℕ
failed_writes w = w.failures

use Rattle.std.proofs.Common.{◌≡◌, ◌-◌, vec_len}
use Rattle.std.specs.Io.KnownBytes.{Consumes}
use Rattle.hub_engine.proofs.input.read_input.Given as goal

-- what was read is kept, and no read has failed
abbrev pub invariant-loop-piece : goal.invariant-loop-piece
invariant-loop-piece g l = record {
  kept : Consumes (g.R.Read.remaining l.fn.reader.reader) (g.R.Read.remaining l.reader.reader) l.input.items;
  room : vec_len l.piece ≡ 65536;
  failures : l.reader.failures ≡ l.fn.reader.failures;
}

-- the reads that are left
abbrev pub decreases-loop-piece : goal.decreases-loop-piece
decreases-loop-piece g l = 1048576 - l.reader.reads

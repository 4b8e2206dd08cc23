use Rattle.std.proofs.Common.{◌≡◌, ℕ, List, ◌++◌, length}
use Rattle.std.specs.Io.KnownBytes.{Appends}
use Rattle.hub_engine.proofs.output.write_whole.Given as goal

-- a front of the bytes has gone out, the rest is left, no write has failed, and none was flushed
abbrev pub invariant-loop-rest : goal.invariant-loop-rest
invariant-loop-rest g l = (front : List ℕ) × (l.fn.bytes ≡ front ++ l.rest) × Appends (g.W.Write.contents l.fn.writer.writer) (g.W.Write.contents l.writer.writer) front × (l.writer.failures ≡ l.fn.writer.failures) × (l.writer.flushes ≡ l.fn.writer.flushes)

-- what is left to write
abbrev pub decreases-loop-rest : goal.decreases-loop-rest
decreases-loop-rest g l = length l.rest

use Rattle.std.proofs.Common.{◌+◌, ◌≤◌, length}
use Rattle.hub_script.specs.Reader.{known}
use Rattle.hub_script.proofs.Reading.{HasObeyed, IsReadSoFar}
use Rattle.hub_script.proofs.script.Script.read.Given as goal

-- what was read so far, and what is read of the rest, is what is read of all; each text line took a byte
abbrev pub invariant-loop-rest : goal.invariant-loop-rest
invariant-loop-rest l = record {
  so_far : IsReadSoFar l.fn.text l.number (known l.reader) l.rest;
  obeyed : HasObeyed l.fn.text l.number (known l.reader) l.rest;
  room : l.number + length l.rest ≤ length l.fn.text;
}

-- what is left to read
abbrev pub decreases-loop-rest : goal.decreases-loop-rest
decreases-loop-rest l = length l.rest

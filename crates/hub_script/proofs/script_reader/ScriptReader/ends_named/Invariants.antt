use Rattle.std.proofs.Common.{◌≡◌, length}
use Rattle.hub_script.specs.Reader.{known}
use Rattle.hub_script.proofs.PortLists.{AreNamedSoFar}
use Rattle.hub_script.proofs.script_reader.ScriptReader.ends_named.Given as goal

-- one end for each name so far
abbrev pub invariant-loop-name : goal.invariant-loop-name
invariant-loop-name l = record {
  so_far : AreNamedSoFar (known l.self) l.name-items l.ends.items l.name-index;
  each : length l.ends.items ≡ l.name-index;
}

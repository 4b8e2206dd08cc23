use Rattle.std.proofs.Common.{◌≡◌, length}
use Rattle.hub_script.specs.Known.{giving_all, with_holds}
use Rattle.hub_script.specs.Reader.{known}
use Rattle.hub_script.proofs.script_reader.ScriptReader.mark_ports_released_by_agent.Given as goal

-- what is left once the rest is given up is what is left once all are
abbrev pub invariant-loop-first : goal.invariant-loop-first
invariant-loop-first l = with_holds (known l.self) (giving_all l.agent l.rest) ≡ with_holds (known l.initial.self) (giving_all l.agent l.ports)

abbrev pub decreases-loop-first : goal.decreases-loop-first
decreases-loop-first l = length l.rest

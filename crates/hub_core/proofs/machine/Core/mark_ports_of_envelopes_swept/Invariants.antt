use Rattle.std.proofs.Common.{◌≡◌, take}
use Rattle.hub_core.proofs.Words.{Swept, moved_ends, ports_of}
use Rattle.hub_core.proofs.machine.Core.mark_ports_of_envelopes_swept.Given as goal

-- the ports of the envelopes so far are placed
abbrev pub invariant-loop-envelope : goal.invariant-loop-envelope
invariant-loop-envelope l =
    l.self ≡ record l.fn.self { ends = moved_ends (ports_of (take l.envelope-index l.envelopes)) Swept l.fn.self.ends }

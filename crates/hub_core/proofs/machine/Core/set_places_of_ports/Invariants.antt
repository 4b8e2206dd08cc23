use Rattle.std.proofs.Common.{◌≡◌, take}
use Rattle.hub_core.proofs.Words.{moved_ends}
use Rattle.hub_core.proofs.machine.Core.set_places_of_ports.Given as goal

-- the ports so far are placed
abbrev pub invariant-loop-port : goal.invariant-loop-port
invariant-loop-port l = l.self ≡ record l.fn.self { ends = moved_ends (take l.port-index l.ports) l.place l.fn.self.ends }

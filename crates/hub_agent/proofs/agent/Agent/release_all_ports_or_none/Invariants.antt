use Rattle.std.proofs.Common.{◌≡◌, ◌+◌, ◌≤◌, length, take, vec_len, vec_capacity}
use Rattle.hub_ports.specs.Seats.{ends_of}
use Rattle.hub_agent.specs.Agents.{KeepsButEnds}
use Rattle.hub_agent.specs.Posting.{TakesOut}
use Rattle.hub_agent.proofs.agent.Agent.release_all_ports_or_none.Given as goal

abbrev pub invariant-loop-end : goal.invariant-loop-end
invariant-loop-end g l = record {
  room : vec_len l.ports + length l.ends ≤ vec_capacity l.ports + l.end-index;
  ports : ends_of l.ports.items ≡ take l.end-index l.ends;
  same : KeepsButEnds l.fn.self l.self;
  taken : TakesOut l.ports.items l.fn.self.ends l.self.ends;
}

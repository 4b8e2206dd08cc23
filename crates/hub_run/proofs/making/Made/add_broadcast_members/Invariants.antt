use Rattle.std.proofs.Common.{◌≡◌, ◌+◌, length, take}
use Rattle.hub_script.specs.Contents.{declared_agents, members}
use Rattle.hub_script.specs.Known.{port_count}
use Rattle.hub_agent.specs.Given.{members_from}
use Rattle.hub_run.specs.Giving.{Gives}
use Rattle.hub_run.proofs.making.Made.add_broadcast_members.Given as goal

abbrev pub invariant-loop-declared : goal.invariant-loop-declared
invariant-loop-declared g l = record {
  given : Gives (λ k. members_from l.script k 0 (take l.declared-index (members l.script))) l.fn.self.agents.items l.self.agents.items;
  drawn : l.self.ends.drawn ≡ length (declared_agents l.script) + port_count l.script + l.declared-index;
}

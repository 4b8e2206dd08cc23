use Rattle.std.proofs.Common.{◌≡◌, ◌+◌, ◌*◌, length, take}
use Rattle.hub_script.specs.Contents.{declared_agents, channels}
use Rattle.hub_agent.specs.Given.{ports_from}
use Rattle.hub_run.specs.Giving.{Gives}
use Rattle.hub_run.proofs.making.Made.add_message_channels.Given as goal

abbrev pub invariant-loop-declared : goal.invariant-loop-declared
invariant-loop-declared g l = record {
  given : Gives (λ k. ports_from l.script k 0 (take l.declared-index (channels l.script))) l.fn.self.agents.items l.self.agents.items;
  drawn : l.self.ends.drawn ≡ length (declared_agents l.script) + 2 * l.declared-index;
}

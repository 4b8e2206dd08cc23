use Rattle.std.proofs.Common.{◌≡◌, ◌≤◌, length, take}
use Rattle.hub_script.specs.Contents.{actions}
use Rattle.hub_agent.specs.Doing.{DidAll, actions_of}
use Rattle.hub_agent.proofs.actor.do_actions_until_ordered_to_stop.Given as goal

-- so far each action of the agent was done
abbrev pub invariant-loop-at : goal.invariant-loop-at
invariant-loop-at g l = record {
  did : DidAll g.A.Actor.looks g.A.Actor.acts (actions_of l.agent (take l.at-index (actions l.script))) l.fn.actor l.actor;
  count : l.done ≡ length (actions_of l.agent (take l.at-index (actions l.script)));
  few : l.done ≤ l.at-index;
}

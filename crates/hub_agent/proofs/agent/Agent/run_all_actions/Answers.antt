use Rattle.std.proofs.Common.{◌∙◌, ap, subst}
use Rattle.hub_envelope.specs.declared.ids.AgentId.{AgentId}
use Rattle.hub_agent.specs.Doing.{actions_of}
use Rattle.hub_script.specs.Contents.{actions}
use Rattle.hub_agent.specs.Acting.{ActsFirst}
use Rattle.hub_agent.specs.Agents.{AgentState}
use Rattle.hub_agent.proofs.OneByOne.{acted_so}
use Rattle.hub_agent.proofs.agent.Agent.run_all_actions.Goals as goal

pub returns-in-Ok : goal.returns-in-Ok
returns-in-Ok g c =
    let all = actions c.args.script.now in
    subst (λ (n : AgentId). ActsFirst c.in-Ok.acted (actions_of n all) c.args.self.now c.do_actions_until_ordered_to_stop.new.actor) (c.agent_id-number.ensures ∙ ap (λ (a : AgentState). a.notes.log.0) c.self.view_is)
    (acted_so (actions_of c.agent_id-number.result all) c.args.self.now c.do_actions_until_ordered_to_stop.new.actor c.do_actions_until_ordered_to_stop.result c.in-Ok.acted c.in-Ok.is c.do_actions_until_ordered_to_stop.ensures.ok)

-- The logs of the agents of a script, each at its agent's place.
use Rattle.std.proofs.Common.{◌≡◌, ◌∙◌, ◌<◌, List, false, length, get_or, subst, sym, take, drop}
use Rattle.std.proofs.lemmas.List.{take-append-drop}
use Rattle.std.proofs.lemmas.Option.{get_or_from_slice_get, slice_get-get_or, slice_get_within}
use Rattle.hub_agent.specs.Doing.{actions_of}
use Rattle.hub_agent.specs.declared.actor.Acted.{Acted}
use Rattle.hub_agent.specs.Acting.{AreEntriesFor, IsRunFor}
use Rattle.hub_agent.specs.Entries.{AreLoggedFor}
use Rattle.hub_agent.proofs.Messages.{entries_put}
use Rattle.hub_agent.proofs.OneByOne.{no_more}
use Rattle.hub_envelope.specs.declared.ids.AgentId.{AgentId}
use Rattle.hub_script.specs.Contents.{Contents, actions, declared_agents}
use Rattle.hub_script.specs.declared.action.ActionKind.{ActionKind}
use Rattle.hub_trace.specs.Accepted.{AgentLog}
use Rattle.hub_run.specs.Runs.{AreLogsFor, AreRunsFor, IsLogFor}
use Rattle.hub_run.specs.Threads.{AreInOrder}

-- as many logs as agents, each at its agent's place
pub runs_for : (script : Contents) (logs : List AgentLog) (acted : List Acted) → length logs ≡ length (declared_agents script) → length acted ≡ length (declared_agents script) → AreInOrder script logs acted → AreRunsFor script logs acted
runs_for script logs acted as_many all in_order = record {
  count = as_many;
  all = all;
  each = λ number log a at also. subst (λ (l : AgentLog). IsRunFor script (record { 0 = number }) l a) (get_or_from_slice_get logs number log log at)
      (subst (λ (x : Acted). IsRunFor script (record { 0 = number }) (get_or logs number log) x) (get_or_from_slice_get acted number a a also) (in_order number log a (slice_get_within logs number log at)));
}

-- how far it came aside, what came of an agent is its log
log_of : (script : Contents) (agent : AgentId) (log : AgentLog) (acted : Acted) → IsRunFor script agent log acted → IsLogFor script agent log
log_of script agent log acted run =
    let all = actions_of agent (actions script) in
    let (acts, endings, is, logged, ended) = run.entries in
    let written : AreEntriesFor all log.1 = (
      acts,
      endings,
      is,
      subst (λ (xs : List ActionKind). AreLoggedFor xs acts) (take-append-drop acted.done all) (no_more (take acted.done all) (drop acted.done all) acts logged),
      ended,
    ) in
    record { whose = run.whose; entries = written; put = entries_put all log.1 written; own = run.own }

none : Acted
none = record { done = 0; ordered = false }

pub logs_of : (script : Contents) (logs : List AgentLog) (acted : List Acted) → AreRunsFor script logs acted → AreLogsFor script logs
logs_of script logs acted runs = record {
  count = runs.count;
  each = λ number log at.
      let there : number < length acted = subst (λ n. number < n) (runs.count ∙ sym runs.all) (slice_get_within logs number log at) in
      let a = get_or acted number none in
      log_of script (record { 0 = number }) log a (runs.each number log a at (slice_get-get_or acted number none there));
}

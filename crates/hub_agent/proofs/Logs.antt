-- The log of an agent that began with no entry and did its actions.
use Rattle.std.proofs.Common.{◌≡◌, ◌∙◌, ◌≤◌, ◌+◌, ◌++◌, ℕ, List, [], None, ap, arith, length, subst, sym, take}
use Rattle.hub_agent.specs.Doing.{actions_of}
use Rattle.hub_agent.specs.declared.actor.Acted.{Acted}
use Rattle.hub_envelope.specs.declared.ids.AgentId.{AgentId}
use Rattle.hub_script.specs.Contents.{Contents, actions}
use Rattle.hub_trace.specs.Accepted.{AgentLog}
use Rattle.hub_trace.specs.declared.log_entry.LogEntry.{LogEntry}
use Rattle.hub_agent.specs.Acting.{ActsFirst, AreEntriesFor, IsRunFor, IsStoppedAt}
use Rattle.hub_agent.specs.Agents.{AgentState}
use Rattle.hub_agent.specs.Entries.{AreEndings, AreLoggedFor, log_and}
use Rattle.hub_agent.specs.Given.{IsGiven, given}
use Rattle.hub_agent.specs.Owning.{LeavesOwn, UsesOwn, has, lost, times}
use Rattle.hub_agent.proofs.Actions.{endings_own}
use Rattle.hub_agent.proofs.Brings.{held_in}
use Rattle.hub_agent.proofs.Messages.{entries_put}
use Rattle.hub_agent.proofs.Owns.{leaves_both, lost_both}

-- what it uses along its log is what it was given
uses_given : (own had : ℕ → ℕ) (entries : List LogEntry) → ((e : ℕ) → had e ≡ own e) → UsesOwn had entries → UsesOwn own entries
uses_given own had entries same uses = λ n e. let h = uses n e in let s = same e in omega (arith, h, s)

run_own : (script : Contents) (number : ℕ) (before start after : AgentState) (log : AgentLog) (entries endings : List LogEntry) → IsGiven script number before → start.kept ≡ before.kept → start.ends ≡ before.ends
    → (start.kept ≡ None → (after.kept ≡ None) × LeavesOwn (has start) entries (has after)) → AreEndings endings → log ≡ log_and after.notes.log endings
    → ((e : ℕ) → lost e log.1 ≤ lost e after.notes.log.1 + has after e) → UsesOwn (λ e. times e (given script number)) (entries ++ endings)
run_own script number before start after log entries endings is_given keeps ends own ended said closes =
    let (none, acts) = own (keeps ∙ is_given.kept) in
    let last = endings_own (has after) endings ended (λ e.
    let c = closes e in
    let l = ap (λ (x : AgentLog). lost e x.1) said ∙ lost_both e after.notes.log.1 endings in
    omega (arith, c, l)) in
    uses_given (λ e. times e (given script number)) (has start) (entries ++ endings) (λ e. ap (λ s. held_in s e) ends ∙ is_given.ends e)
    (leaves_both (has start) (has after) (λ e. 0) entries endings acts last).0

pub run_of : (script : Contents) (number : AgentId) (before start after : AgentState) (acted : Acted) (log : AgentLog) → ActsFirst acted (actions_of start.notes.log.0 (actions script)) start after
    → IsGiven script number.0 before → start.kept ≡ before.kept → start.ends ≡ before.ends → start.notes.log ≡ (number, []) → ((endings : List LogEntry) × AreEndings endings × (log ≡ log_and after.notes.log endings))
    → ((e : ℕ) → lost e log.1 ≤ lost e after.notes.log.1 + has after e) → IsRunFor script number log acted
run_of script number before start after acted log acts is_given keeps ends is_begun (endings, ended, said) closes =
    let agent_is : start.notes.log.0 ≡ number = ap (λ (l : AgentLog). l.0) is_begun in
    let entries = acts.acts.0 in
    let all : log ≡ (number, entries ++ endings) = said ∙ ap (λ (l : AgentLog). log_and l endings) (acts.acts.2 ∙ ap (λ (l : AgentLog). log_and l entries) is_begun) in
    let done : ℕ = acted.done in
    let written : AreEntriesFor (take done (actions_of number (actions script))) log.1 = (
      entries,
      endings,
      ap (λ (l : AgentLog). l.1) all,
      subst (λ (a : AgentId). AreLoggedFor (take done (actions_of a (actions script))) entries) agent_is acts.acts.1,
      ended,
    ) in
    record {
      whose = ap (λ (l : AgentLog). l.0) all;
      entries = written;
      put = entries_put (take done (actions_of number (actions script))) log.1 written;
      own = subst (UsesOwn (λ e. times e (given script number.0))) (sym (ap (λ (l : AgentLog). l.1) all)) (run_own script number.0 before start after log entries endings is_given keeps ends acts.acts.3 ended said closes);
      stopped = subst (λ (a : AgentId). IsStoppedAt acted.ordered acted.done (length (actions_of a (actions script)))) agent_is acts.stopped;
    }

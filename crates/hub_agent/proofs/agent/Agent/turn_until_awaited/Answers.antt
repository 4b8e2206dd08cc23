use Rattle.std.proofs.Common.{◌∙◌, Bool, List, ap, rules, subst, sym}
use Rattle.hub_trace.specs.declared.log_entry.LogEntry.{LogEntry}
use Rattle.hub_agent.specs.Agents.{AgentState}
use Rattle.hub_agent.specs.Entries.{IsComeLogged, WritesEntries}
use Rattle.hub_agent.proofs.Actions.{accounts_both, accounts_kept}
use Rattle.hub_agent.proofs.Waiting.{TurnsAll, not_come, stops, turns_more}
use Rattle.hub_agent.proofs.agent.Agent.turn_until_awaited.Goals as goal

pub returns-in-Ending-clause-written : goal.returns-in-Ending-clause-written
returns-in-Ending-clause-written g c =
    let now = c.args.self.now.notes in
    let mid = c.has_awaited_end_come.new.self.notes in
    let came = subst (λ (b : Bool). (entries : List LogEntry) × IsComeLogged c.args.awaited b entries × WritesEntries entries c.loop.self.notes mid) c.if-branch.false c.in_ok-has_awaited_end_come.ensures.written in
    stops c.args.awaited now c.turn.new.self.notes
    (turns_more now mid c.turn.new.self.notes (not_come c.args.awaited now c.loop.self.notes mid c.loop.invariant.turns came) c.in_ok-turn.ensures.written)

pub loop-preserved : goal.loop-preserved
loop-preserved g c =
    let now = c.args.self.now.notes in
    let mid = c.has_awaited_end_come.new.self.notes in
    let came = subst (λ (b : Bool). (entries : List LogEntry) × IsComeLogged c.args.awaited b entries × WritesEntries entries c.loop.self.notes mid) c.if-branch.false c.in_ok-has_awaited_end_come.ensures.written in
    record {
      turns = subst (TurnsAll now) (sym (ap (λ (a : AgentState). a.notes) c.self.view_is))
          (turns_more now mid c.turn.new.self.notes (not_come c.args.awaited now c.loop.self.notes mid c.loop.invariant.turns came) c.in_ok-turn.ensures.written);
      own = accounts_kept c.args.self.now c.turn.new.self (record c.turn.new.self { notes = c.self.inside.scribe; ends = c.sleep_or_yield_after_turn.new.self.holding.ends.held; kept = c.sleep_or_yield_after_turn.new.self.kept })
          (ap (λ (a : AgentState). a.notes) c.self.view_is)
          (ap (λ l. l.kept) c.sleep_or_yield_after_turn.ensures.same ∙ ap (λ (a : AgentState). a.kept) c.self.view_is)
          (ap (λ l. l.holding.ends.held) c.sleep_or_yield_after_turn.ensures.same ∙ ap (λ (a : AgentState). a.ends) c.self.view_is)
          (accounts_both c.args.self.now c.has_awaited_end_come.new.self c.turn.new.self (accounts_both c.args.self.now c.loop.self c.has_awaited_end_come.new.self c.loop.invariant.own c.in_ok-has_awaited_end_come.ensures.own) c.in_ok-turn.ensures.own);
      rest = search rules;
    }

pub returns-in-Ending-clause-own : goal.returns-in-Ending-clause-own
returns-in-Ending-clause-own g c =
    accounts_both c.args.self.now c.has_awaited_end_come.new.self c.turn.new.self (accounts_both c.args.self.now c.loop.self c.has_awaited_end_come.new.self c.loop.invariant.own c.in_ok-has_awaited_end_come.ensures.own) c.in_ok-turn.ensures.own

pub returns-then-branch-clause-own : goal.returns-then-branch-clause-own
returns-then-branch-clause-own g c =
    accounts_both c.args.self.now c.loop.self c.has_awaited_end_come.new.self c.loop.invariant.own c.in_ok-has_awaited_end_come.ensures.own

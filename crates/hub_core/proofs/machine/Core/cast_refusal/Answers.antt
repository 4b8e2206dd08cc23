-- A cast that passes each test goes to the members of its group.
use Rattle.std.proofs.Common.{◌≡◌, sym, ◌∙◌, ap}
use Rattle.hub_core.proofs.Words.{is_some, seen}
use Rattle.hub_core.proofs.Casts.{cast_goes, none_listed}
use Rattle.hub_core.proofs.machine.Core.cast_refusal.Goals as goal

pub returns-clause-answer : goal.returns-clause-answer
returns-clause-answer c =
    let same : c.self.inside.roster ≡ c.args.self.now.roster = ap (λ s. s.roster) c.self.view_is in
    λ others. sym (cast_goes (seen c.args.self.now) c.args.end c.args.ports.now others _ (sym (ap is_some c.agent_that_made_member.ensures) ∙ c.if-is_none.ensures) (sym (rw same at c.is_some.ensures) ∙ c.if-is_some.false) (sym (rw same at c.has.ensures) ∙ c.if-not-has.false) (sym c.is_closed.ensures ∙ c.if-is_closed.false) (sym (ap is_some c.running_holder.ensures) ∙ c.if-is_none-2.ensures)
    (none_listed c.args.ports.now (sym c.is_empty.ensures ∙ c.if-not-is_empty.false)))

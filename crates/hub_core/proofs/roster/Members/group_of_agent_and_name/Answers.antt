use Rattle.std.proofs.Common.{Some, ap, sym, ◌∙◌}
use Rattle.hub_core.proofs.Words.{group_named}
use Rattle.hub_core.proofs.roster.Members.group_of_agent_and_name.Goals as goal

pub returns : goal.returns
returns c = ap (λ o. group_named (Some o) c.args.name) c.in_ok-origin.ensures.cases ∙ sym (ap (λ o. group_named o c.args.name) c.in-Some.ensures)

use Rattle.std.proofs.Common.{inr, rules}
use Rattle.hub_agent.proofs.agent.Agent.hold_line_lent_by_directory.Goals as goal

pub returns-in_ok-hold_end_or_line-in-Ok-clause-held : goal.returns-in_ok-hold_end_or_line-in-Ok-clause-held
returns-in_ok-hold_end_or_line-in-Ok-clause-held g c = inr (c.in-Ok.line, search rules, c.in_ok-hold_end_or_line-in-Ok.ensures.held)

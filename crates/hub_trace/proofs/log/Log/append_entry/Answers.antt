use Rattle.std.proofs.Common.{sym, subst, false, ◌≡◌}
use Rattle.hub_trace.specs.declared.log_version.LogVersion.TheVariants.{Third}
use Rattle.hub_trace.specs.Accepted.{AgentLog}
use Rattle.hub_trace.specs.Closings.{closes_one, is_closed_by}
use Rattle.hub_trace.proofs.Within.{log_within_more}
use Rattle.hub_trace.proofs.log.Log.append_entry.Goals as goal

pub invariant_of-self-2 : goal.invariant_of-self-2
invariant_of-self-2 c =
    let first = subst (λ (log : AgentLog). closes_one (is_closed_by log.1) c.args.entry ≡ false) (sym c.self.view_is) c.requires.first in
    rw c.in_ok-push.ensures.items (log_within_more Third (c.self.inside.agent, c.self.inside.entries.items) c.args.entry c.self.invariant c.requires.within first)

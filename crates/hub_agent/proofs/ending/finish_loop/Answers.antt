use Rattle.std.proofs.Common.{◌∙◌, refl}
use Rattle.hub_agent.proofs.Closings.{finish_own}
use Rattle.hub_agent.proofs.ending.finish_loop.Goals as goal

pub returns-clause-written : goal.returns-clause-written
returns-clause-written g c =
    let (entries, all, written) = c.in_ok-log_all_closed.ensures.written in
    (entries, all, c.into_log.ensures ∙ written)

pub returns-clause-own : goal.returns-clause-own
returns-clause-own g c = finish_own c.into_log.result c.args.scribe _ c.log_all_closed.new.scribe _ _ c.args.event_loop.holding.ends.held c.into_log.ensures refl (c.deref.ensures.value ∙ c.in_ok-held.ensures) refl c.in_ok-log_all_closed.ensures.own

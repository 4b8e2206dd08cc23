use Rattle.std.proofs.Common.{ap, inl, refl, subst}
use Rattle.hub_loop.specs.Looking.{HoldsNoMember}
use Rattle.hub_agent.specs.Agents.{AgentState}
use Rattle.hub_agent.proofs.Actions.{cast_accounts}
use Rattle.hub_agent.proofs.Walking.{cast_at, cast_from}
use Rattle.hub_agent.proofs.agent.Agent.cast.Goals as goal

pub returns-clause-written : goal.returns-clause-written
returns-clause-written g c =
    cast_at c.cast_and_log.result c.in-Some.source.now.taker.end c.args.member c.args.body.now c.self.inside.scribe c.args.self.now.notes c.cast_and_log.new.scribe c.in-Some.ensures.some.1 (ap (λ (a : AgentState). a.notes) c.self.view_is) c.cast_and_log.ensures.written

pub returns-clause-cast : goal.returns-clause-cast
returns-clause-cast g c = cast_from c.cast_and_log.result c.args.member c.args.body.now _ c.args.self.now _ c.in-Some.source.now c.self.view_is c.in-Some.ensures.some.0 c.in-Some.ensures.some.1 c.cast_and_log.ensures.cast

pub returns-in_default-clause-cast : goal.returns-in_default-clause-cast
returns-in_default-clause-cast g c = inl (subst (λ (a : AgentState). HoldsNoMember a.ends c.args.member) c.self.view_is c.in_default.ensures.none, refl)

pub returns-clause-own : goal.returns-clause-own
returns-clause-own g c =
    cast_accounts c.cast_and_log.result c.args.self.now (record c.args.self.now { notes = c.cast_and_log.new.scribe; ends = _; kept = _ }) c.args.member c.args.body.now
    (cast_at c.cast_and_log.result c.in-Some.source.now.taker.end c.args.member c.args.body.now c.self.inside.scribe c.args.self.now.notes c.cast_and_log.new.scribe c.in-Some.ensures.some.1 (ap (λ (a : AgentState). a.notes) c.self.view_is) c.cast_and_log.ensures.written)
    (ap (λ (a : AgentState). a.ends) c.self.view_is) (ap (λ (a : AgentState). a.kept) c.self.view_is)

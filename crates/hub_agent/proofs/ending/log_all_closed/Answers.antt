use Rattle.std.proofs.Common.{[], false, Some, arith}
use Rattle.hub_agent.proofs.Closings.{at_end, closes_all, closes_more, closes_none, closes_notice}
use Rattle.hub_agent.proofs.Endings.{ends_more, ends_none}
use Rattle.hub_agent.proofs.ending.log_all_closed.Goals as goal

pub loop-swept-init : goal.loop-swept-init
loop-swept-init c = record { ends = ends_none c.args.scribe.now; closes = closes_none c.args.scribe.now c.in_ok-left.left.keys c.args.held.now c.in_ok-left.ensures }

pub loop-swept-preserved : goal.loop-swept-preserved
loop-swept-preserved c = record {
  ends = ends_more _ _ _ c.args.scribe.now c.loop-swept.scribe c.log_notice_and_closing_if_held.new.scribe c.loop-swept.invariant.ends c.in_ok-log_notice_and_closing_if_held.ensures;
  closes = closes_more c.args.scribe.now c.loop-swept.scribe c.log_notice_and_closing_if_held.new.scribe c.loop-swept.left.keys c.remove-was_held.new.self.keys c.args.held.now c.closed_end_id-end.result c.remove-notice.result c.remove-was_held.result _
      c.loop-swept.invariant.closes c.in_ok-log_notice_and_closing_if_held.ensures c.remove-was_held.ensures.test c.remove-was_held.ensures.keys (λ x found. at_end c.closed_end_id-end.result.0 x.0 found);
}

pub loop-posted-init : goal.loop-posted-init
loop-posted-init c = record { ends = c.loop-swept.invariant.ends; closes = closes_all c.args.scribe.now c.loop-swept.scribe c.loop-swept.left.keys c.args.held.now c.loop-swept.invariant.closes }

pub loop-posted-preserved : goal.loop-posted-preserved
loop-posted-preserved c = record {
  ends = ends_more (record { 0 = 0 }) (Some c.in-Some.posted.now) false c.args.scribe.now c.loop-posted.scribe c.log_closing_notice.new.scribe c.loop-posted.invariant.ends c.in_ok-log_closing_notice.ensures;
  closes = closes_notice c.args.scribe.now c.loop-posted.scribe c.log_closing_notice.new.scribe [] c.args.held.now c.in-Some.posted.now c.loop-posted.invariant.closes c.in_ok-log_closing_notice.ensures;
}

pub returns-clause-own : goal.returns-clause-own
returns-clause-own c = λ e. let a = c.loop-posted.invariant.closes e in omega (arith, a)

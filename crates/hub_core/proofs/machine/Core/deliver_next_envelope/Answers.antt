-- A take that finds nothing leaves the end as it was, or with its taker at the next queue.
use Rattle.std.proofs.Common.{◌<◌, ◌≡◌, ◌∙◌, Some, ap, length, rules, set, sym, ℕ, ⊎_elim}
use Rattle.hub_core.proofs.Words.{AgentId, CoreState, advanced_end, cases_lt, end_now, holder, running, seen, slice_get_past, with_agent}
use Rattle.hub_core.proofs.Items.{end_again, end_set}
use Rattle.hub_core.specs.contracts.machine.Core.{the_view}
use Rattle.hub_core.proofs.machine.Core.deliver_next_envelope.Goals as goal

-- an end that an agent has is there
held_there : (c : CoreState) (e : ℕ) (a : AgentId) → holder (seen c) e ≡ Some a → e < length c.ends
held_there c e a held = ⊎_elim (λ low. low) (λ past. absurd (search (rules, sym (ap (λ q. running (seen c).agent (with_agent (end_now q).place)) (slice_get_past c.ends e past)) ∙ held))) (cases_lt e (length c.ends))

pub returns-in-None-clause-new : goal.returns-in-None-clause-new
returns-in-None-clause-new c = (λ i. record (the_view c.self.inside) { ends = set c.self.inside.ends.items c.args.end.0 (record c.index_mut-served.result.now { queues = c.in-None.ensures.1 i }) }) ∙ end_again (the_view c.self.inside) _ c.args.end.0 c.index_mut-served.result.now c.self.view_is (held_there c.args.self.now c.args.end.0 c.args.agent c.requires) c.index_mut-served.ensures.value

pub returns-in-None-2-clause-new : goal.returns-in-None-2-clause-new
returns-in-None-2-clause-new c = (λ i. record (the_view c.self.inside) { ends = set c.self.inside.ends.items c.args.end.0 (record c.index_mut-served.result.now { queues = c.in-None.ensures.1 i }) }) ∙ end_again (the_view c.self.inside) _ c.args.end.0 c.index_mut-served.result.now c.self.view_is (held_there c.args.self.now c.args.end.0 c.args.agent c.requires) c.index_mut-served.ensures.value

pub returns-in-None-3-clause-new : goal.returns-in-None-3-clause-new
returns-in-None-3-clause-new c = (λ i. record (the_view c.self.inside) { ends = set c.self.inside.ends.items c.args.end.0 (c.advance_to_next_queue.ensures i) }) ∙ (λ i. record (the_view c.self.inside) { ends = set c.self.inside.ends.items c.args.end.0 (advanced_end (record c.index_mut-served.result.now { queues = c.in-None.ensures.1 i })) }) ∙ end_set advanced_end (the_view c.self.inside) c.args.self.now c.args.end.0 c.index_mut-served.result.now c.self.view_is (held_there c.args.self.now c.args.end.0 c.args.agent c.requires) c.index_mut-served.ensures.value

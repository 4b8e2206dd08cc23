-- What a push answers is what its tests say.
use Rattle.std.proofs.Common.{◌∙◌, ◌≡◌, ap, rules, subst, sym}
use Rattle.hub_core.proofs.Words.{core_after, line_of, may_put, seen}
use Rattle.hub_core.specs.Posting.{push_answer}
use Rattle.hub_core.specs.declared.step.Action.TheVariants as action
use Rattle.hub_core.proofs.machine.Core.check_and_push_message.Goals as goal

pub returns-in-Err : goal.returns-in-Err
returns-in-Err c = (
  c.in-Err.ensures.answer ∙ ap (λ ports. push_answer (may_put c.args.self.now.ends c.args.sender) (line_of c.args.self.now.ends c.args.sender).put (seen c.args.self.now) c.args.sender ports c.args.body c.args.memory_refused) c.as_slice.ensures,
  sym (subst (λ ports. core_after c.args.self.now c.in-Err.refusal (action.Push c.args.sender ports c.args.body) ≡ c.args.self.now) c.as_slice.ensures c.in-Err.ensures.rest),
)

pub returns-in_ok-append_envelope_with_ports-in-Ok : goal.returns-in_ok-append_envelope_with_ports-in-Ok
returns-in_ok-append_envelope_with_ports-in-Ok c = (c.in-Ok.ensures.answer ∙ ap (λ ports. push_answer (may_put c.args.self.now.ends c.args.sender) (line_of c.args.self.now.ends c.args.sender).put (seen c.args.self.now) c.args.sender ports c.args.body c.args.memory_refused) c.as_slice.ensures, search rules)

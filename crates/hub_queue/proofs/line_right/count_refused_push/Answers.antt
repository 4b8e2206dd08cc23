use Rattle.hub_queue.proofs.Rule.{counts_refusal_at}
use Rattle.hub_queue.proofs.line_right.count_refused_push.Goals as goal

pub another-requires-clause-rule : goal.another-requires-clause-rule
another-requires-clause-rule c = counts_refusal_at _ _ _ c.requires.line

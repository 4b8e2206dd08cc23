use Rattle.hub_envelope.proofs.Answers.{IsAnswerTo-copy}
use Rattle.hub_envelope.proofs.body.Body.read.Goals as goal

pub returns-then-is_surely_compact-clause-cases : goal.returns-then-is_surely_compact-clause-cases
returns-then-is_surely_compact-clause-cases c = IsAnswerTo-copy c.args.text.now c.copy_of.result c.copy_of.ensures.ok c.copy_of.ensures.err

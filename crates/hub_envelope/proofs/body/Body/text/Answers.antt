use Rattle.hub_envelope.proofs.Answers.{answer_of-again}
use Rattle.hub_envelope.proofs.body.Body.text.Goals as goal

pub returns-clause-reads_back : goal.returns-clause-reads_back
returns-clause-reads_back c = rw (← c.self.view_is) (answer_of-again _ c.self.invariant)

use Rattle.hub_gate.proofs.EveryGate.{none_in, no_seat_in, each_step, word_shows}
use Rattle.hub_gate.proofs.laws.prove_gate_laws.Goals as goal

pub returns-clause-over : goal.returns-clause-over
returns-clause-over g c = none_in g.T.Right.tag

pub returns-clause-rule : goal.returns-clause-rule
returns-clause-rule g c = λ key s kept. kept

pub returns-clause-seats : goal.returns-clause-seats
returns-clause-seats g c = λ key. no_seat_in g.T.Right.tag

pub returns-clause-steps : goal.returns-clause-steps
returns-clause-steps g c = each_step g.T.Right.tag

pub returns-clause-word : goal.returns-clause-word
returns-clause-word g c = word_shows g.T.Right.tag

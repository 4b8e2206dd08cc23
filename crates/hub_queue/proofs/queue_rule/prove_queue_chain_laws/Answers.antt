use Rattle.hub_queue.proofs.InTurn.{taken_prefix, in_turn, chain_prefix}
use Rattle.hub_queue.proofs.queue_rule.prove_queue_chain_laws.Goals as goal

pub returns-clause-rule : goal.returns-clause-rule
returns-clause-rule c = λ items views kept. kept

pub returns-clause-prefix : goal.returns-clause-prefix
returns-clause-prefix c = taken_prefix

pub returns-clause-in_turn : goal.returns-clause-in_turn
returns-clause-in_turn c = in_turn

pub returns-clause-chain : goal.returns-clause-chain
returns-clause-chain c = chain_prefix

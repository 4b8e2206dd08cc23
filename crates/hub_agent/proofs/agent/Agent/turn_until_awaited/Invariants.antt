use Rattle.hub_agent.specs.Agents.{KeepsButTurns}
use Rattle.hub_agent.specs.Owning.{Accounts}
use Rattle.hub_agent.proofs.Waiting.{TurnsAll}
use Rattle.hub_agent.proofs.agent.Agent.turn_until_awaited.Given as goal

abbrev pub invariant-loop : goal.invariant-loop
invariant-loop g l = record {
  turns : TurnsAll l.fn.self.notes l.self.notes;
  own : Accounts l.fn.self l.self;
  rest : KeepsButTurns l.fn.self l.self;
}

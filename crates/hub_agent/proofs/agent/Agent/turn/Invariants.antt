use Rattle.hub_agent.proofs.agent.Agent.turn.Given as goal

abbrev pub ghosts-turn_counting_pops : goal.ghosts-turn_counting_pops
ghosts-turn_counting_pops g a = record { name = a.blank.name; parts = a.blank.parts }

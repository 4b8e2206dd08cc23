use Rattle.hub_test_parts.proofs.taking.turn.Given as goal

abbrev pub ghosts-begin_and_turn : goal.ghosts-begin_and_turn
ghosts-begin_and_turn g a = record { name = a.blank.name; parts = a.blank.parts }

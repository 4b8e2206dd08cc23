use Rattle.hub_test_parts.proofs.taking.take.Given as goal

abbrev pub ghosts-begin_and_take : goal.ghosts-begin_and_take
ghosts-begin_and_take g a = record { name = a.blank.name; parts = a.blank.parts }

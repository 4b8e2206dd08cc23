use Rattle.hub_loop.proofs.event_loop.EventLoop.run.Given as goal

abbrev pub ghosts-run_counting_pops : goal.ghosts-run_counting_pops
ghosts-run_counting_pops g a = record { name = a.blank.name; parts = a.blank.parts }

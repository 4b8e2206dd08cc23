use Rattle.hub_queue_tests.proofs.meetings.a_poster_meets_its_taker.Given as goal

abbrev pub ghosts-meets : goal.ghosts-meets
ghosts-meets g a = record { name = a.blank.name; parts = a.blank.parts }

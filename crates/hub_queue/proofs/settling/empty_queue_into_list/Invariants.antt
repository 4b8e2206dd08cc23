use Rattle.hub_queue.proofs.settling.empty_queue_into_list.Given as goal

abbrev pub ghosts-take_all_envelopes : goal.ghosts-take_all_envelopes
ghosts-take_all_envelopes g a = record { name = a.blank.name; parts = a.blank.parts }

use Rattle.hd_volume_tests.proofs.store_tests.play.Given as goal

abbrev pub ghosts-take_steps : goal.ghosts-take_steps
ghosts-take_steps a = record { name = a.blank.name; parts = a.blank.parts }

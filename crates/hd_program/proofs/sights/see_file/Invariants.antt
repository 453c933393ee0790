use Rattle.hd_program.proofs.sights.see_file.Given as goal

abbrev pub ghosts-see_blocks : goal.ghosts-see_blocks
ghosts-see_blocks a = record { name = a.blank.name; parts = a.blank.parts }

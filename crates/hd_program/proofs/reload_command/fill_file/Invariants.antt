use Rattle.hd_program.proofs.reload_command.fill_file.Given as goal

abbrev pub ghosts-fill_blocks : goal.ghosts-fill_blocks
ghosts-fill_blocks g a = record { name = a.blank.name; parts = a.blank.parts }

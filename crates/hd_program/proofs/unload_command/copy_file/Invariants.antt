use Rattle.hd_program.proofs.unload_command.copy_file.Given as goal

abbrev pub ghosts-copy_blocks : goal.ghosts-copy_blocks
ghosts-copy_blocks g a = record { name = a.blank.name; parts = a.blank.parts }

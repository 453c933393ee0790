use Rattle.hd_program.proofs.show_command.show_file.Given as goal

abbrev pub ghosts-show_blocks : goal.ghosts-show_blocks
ghosts-show_blocks g a = record { name = a.blank.name; parts = a.blank.parts }

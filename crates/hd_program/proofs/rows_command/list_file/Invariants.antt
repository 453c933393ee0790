use Rattle.hd_program.proofs.rows_command.list_file.Given as goal

abbrev pub ghosts-list_blocks : goal.ghosts-list_blocks
ghosts-list_blocks g a = record { name = a.blank.name; parts = a.blank.parts }

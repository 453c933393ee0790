use Rattle.hd_program.proofs.tables_command.write_file.Given as goal

abbrev pub ghosts-write_blocks : goal.ghosts-write_blocks
ghosts-write_blocks g a = record { name = a.blank.name; parts = a.blank.parts }

use Rattle.hd_program.proofs.copy_command.duplicate_file.Given as goal

abbrev pub ghosts-duplicate : goal.ghosts-duplicate
ghosts-duplicate g a = record { name = a.blank.name; parts = a.blank.parts }

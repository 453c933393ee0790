use Rattle.hd_program.proofs.salvage_command.rescue_file.Given as goal

abbrev pub ghosts-rescue_blocks : goal.ghosts-rescue_blocks
ghosts-rescue_blocks g a = record { name = a.blank.name; parts = a.blank.parts }

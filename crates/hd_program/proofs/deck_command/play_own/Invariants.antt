use Rattle.hd_program.proofs.deck_command.play_own.Given as goal

abbrev pub ghosts-play_over : goal.ghosts-play_over
ghosts-play_over g a = record { name = a.blank.name; parts = a.blank.parts }

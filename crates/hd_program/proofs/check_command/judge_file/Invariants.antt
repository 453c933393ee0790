use Rattle.hd_program.proofs.check_command.judge_file.Given as goal

abbrev pub ghosts-judge_blocks : goal.ghosts-judge_blocks
ghosts-judge_blocks g a = record { name = a.blank.name; parts = a.blank.parts }

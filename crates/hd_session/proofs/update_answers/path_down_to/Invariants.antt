use Rattle.std.proofs.Common.{◌≡◌, take}
use Rattle.hd_session.proofs.update_answers.path_down_to.Given as goal

-- so much of the path
abbrev pub invariant-loop-place : goal.invariant-loop-place
invariant-loop-place l = l.part ≡ take l.place l.path

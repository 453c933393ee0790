use Rattle.std.proofs.Common.{◌≢◌, ℕ, ◌<◌}
use Rattle.std.specs.Prelude.{slice_index}
use Rattle.hd_check_pointers.specs.Tables.{nobody}
use Rattle.hd_check_walk.proofs.walk.all_held.Given as goal

-- the segments before are held
abbrev pub invariant-loop-holder : goal.invariant-loop-holder
invariant-loop-holder l = (j : ℕ) → j < l.holder-index → slice_index l.holders j ≢ nobody

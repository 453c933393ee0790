use Rattle.std.proofs.Common.{ℕ, ◌<◌, length}
use Rattle.hd_volume.specs.Volumes.{VolumeState, IsKind}
use Rattle.hd_check_index.specs.Tables.{AreIndexBlocks}
use Rattle.hd_check_index.specs.Standings.{standing_at}
use Rattle.hd_check_index.proofs.Followers.{IsLeastTo}
use Rattle.hd_check_index.proofs.next_blocks.wrong_next.Given as goal

-- of the wrong ones before this is the least number
abbrev pub invariant-loop-i : goal.invariant-loop-i
invariant-loop-i l = (v : VolumeState) → AreIndexBlocks v l.blocks → ((j : ℕ) → j < length l.rows → IsKind v 2 (standing_at l.rows j).number) → IsLeastTo v l.rows l.i l.found

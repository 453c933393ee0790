use Rattle.std.proofs.Common.{◌≡◌, ◌<◌, ℕ}
use Rattle.hd_volume.specs.Headers.{header_of}
use Rattle.hd_volume.specs.Volumes.{VolumeState}
use Rattle.hd_volume.specs.Indexes.{entry_room}
use Rattle.hd_check_index.specs.IndexPhases.{AreIndexBlocks, AreForms, IsRightIndexBlock, index_block_at}
use Rattle.hd_check_index.proofs.block_forms.wrong_form.Given as goal

-- the blocks before are right
abbrev pub invariant-loop-i : goal.invariant-loop-i
invariant-loop-i l = (k : ℕ) (v : VolumeState) → AreIndexBlocks v l.blocks → AreForms v l.blocks l.forms → l.height ≡ (header_of v.image).height → l.room ≡ entry_room k v.size
    → (j : ℕ) → j < l.i → IsRightIndexBlock k v (index_block_at l.blocks j).number

-- Room for the blocks that a new entry needs.
use Rattle.std.specs.Prelude.{◌≡◌, ◌⊎◌, ℕ, ◌<◌, ◌≤◌}
use Rattle.hd_dbd.specs.declared.answer.Refused.{Refused}
use Rattle.hd_dbd.specs.declared.answer.Refused.TheVariants.{Memory, Full}
use Rattle.hd_volume.specs.Volumes.{VolumeState}
use Rattle.hd_volume.specs.Rooms.{spare, free_blocks}

-- So many blocks may be taken: they are to spare, and they are free or memory for them is reserved.
pub record IsReady (needed : ℕ) (v : VolumeState) : Type 0 where
  pub spares : needed ≤ spare v
  pub taken : (needed ≤ v.room) ⊎ (needed ≤ free_blocks v)

-- So many blocks were refused: they are not to spare or are more than the levels that an index may have, or there is no memory for them.
pub record IsRefusedFor (needed : ℕ) (v : VolumeState) (e : Refused) : Type 0 where
  pub full : e ≡ Full → (spare v < needed) ⊎ (64 < needed)
  pub memory : e ≡ Memory → (v.room < needed) × (free_blocks v < needed)

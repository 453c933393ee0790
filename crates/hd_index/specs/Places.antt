-- The blocks that a new entry needs.
use Rattle.std.specs.Prelude.{ℕ, List}
use Rattle.hd_volume.specs.Volumes.{VolumeState}
use Rattle.hd_index_blocks.specs.Needs.{set_blocks_needed}

-- the blocks that a new key needs: one for each block that is divided, and a new top
abbrev pub blocks_needed : ℕ → VolumeState → List ℕ → ℕ
blocks_needed key_length v key = set_blocks_needed key_length v key

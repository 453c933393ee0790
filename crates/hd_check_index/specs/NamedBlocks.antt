-- The blocks that an index set names: its top block, and those that upper entries name.
use Rattle.std.specs.Prelude.{ℕ, ◌==◌, cond, List, [], ◌∷◌, ◌++◌}
use Rattle.hd_volume.specs.Volumes.{VolumeState, block_at}
use Rattle.hd_volume.specs.Entries.{entries_in}
use Rattle.hd_index_blocks.specs.Levels.{named}
use Rattle.hd_check_index.specs.declared.table.NotedBlock.{NotedBlock}

-- the blocks that the entries of a block name, where it is of a level above level 0
abbrev pub names_in : ℕ → VolumeState → NotedBlock → List ℕ
names_in key_length v block = cond (block.level == 0) [] (named (entries_in key_length (block_at v block.number)))

-- and those that the entries of some blocks name
abbrev pub upper_names : ℕ → VolumeState → List NotedBlock → List ℕ
upper_names key_length v [] = []
upper_names key_length v (b ∷ bs) = names_in key_length v b ++ upper_names key_length v bs

-- all blocks that are named, 0 for none
abbrev pub names_of : ℕ → VolumeState → ℕ → List NotedBlock → List ℕ
names_of key_length v top blocks = top ∷ upper_names key_length v blocks

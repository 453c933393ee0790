use Rattle.hd_volume.specs.Volumes.{VolumeState}
use Rattle.hd_volume.specs.Entries.{entries_at}
use Rattle.hd_index_blocks.specs.Levels.{named}
use Rattle.hd_check_index.specs.Tables.{AreIndexBlocks}
use Rattle.hd_check_index.specs.NotedBlocks.{AreOfLevel}
use Rattle.hd_check_index.proofs.forms.are_of_level.Given as goal

-- the entries before name blocks of the level
abbrev pub invariant-loop-index : goal.invariant-loop-index
invariant-loop-index l = (v : VolumeState) → AreIndexBlocks v l.blocks → AreOfLevel v l.level (named (entries_at l.upper.key_length l.upper.bytes.now 12 l.index))

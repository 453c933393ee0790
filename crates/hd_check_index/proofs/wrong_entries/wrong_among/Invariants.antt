use Rattle.std.proofs.Common.{◌≤◌, ◌-◌, ℕ, IsTrue, Ok}
use Rattle.hd_volume.specs.Calls.{IsRead}
use Rattle.hd_index_blocks.specs.Fields.{entry_count}
use Rattle.hd_check_index.specs.DataBlocks.{FirstNameRoots, AreFirstNoted}
use Rattle.hd_check_index.proofs.wrong_entries.wrong_among.Given as goal

-- the entries before name roots, and are noted
abbrev pub invariant-loop-index : goal.invariant-loop-index
invariant-loop-index g l = record {
  read : IsRead {T = ℕ} l.fn.volume (Ok 0) l.volume;
  low : l.index ≤ entry_count l.block.key_length l.block.bytes.now;
  right : IsTrue l.fn.volume.is_sound → FirstNameRoots l.dbd l.fn.volume l.block.key_length l.block.bytes.now l.index;
  named : AreFirstNoted l.fn.named.items l.block.key_length l.block.bytes.now l.index l.named.items;
}

abbrev pub decreases-loop-index : goal.decreases-loop-index
decreases-loop-index g l = entry_count l.block.key_length l.block.bytes.now - l.index

use Rattle.std.proofs.Common.{ℕ, IsTrue, Ok}
use Rattle.hd_volume.specs.Calls.{IsRead}
use Rattle.hd_check_index.proofs.NameLists.{AreListedTo}
use Rattle.hd_check_index.proofs.wrong_entries.wrong_entry_faults.Given as goal

-- the blocks before with a wrong entry are listed
abbrev pub invariant-loop-block : goal.invariant-loop-block
invariant-loop-block g l = record {
  read : IsRead {T = ℕ} l.fn.volume (Ok 0) l.volume;
  listed : IsTrue l.fn.volume.is_sound → AreListedTo l.dbd l.fn.volume l.blocks l.block-index l.faults.items;
}

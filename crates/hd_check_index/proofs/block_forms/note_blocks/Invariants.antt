use Rattle.std.proofs.Common.{◌≡◌, ◌≤◌, ℕ, length, IsTrue, Ok}
use Rattle.hd_volume.specs.Calls.{IsRead}
use Rattle.hd_check_index.proofs.IndexTables.{AreNotedBelow}
use Rattle.hd_check_index.proofs.block_forms.note_blocks.Given as goal

-- the index blocks before n are noted
abbrev pub invariant-loop-n : goal.invariant-loop-n
invariant-loop-n g l = record {
  read : IsRead {T = ℕ} l.fn.volume (Ok 0) l.volume;
  first : 1 ≤ l.n;
  as_many : length l.forms.items ≡ length l.blocks.items;
  noted : IsTrue l.fn.volume.is_sound → AreNotedBelow l.fn.volume l.n l.blocks.items l.forms.items;
}

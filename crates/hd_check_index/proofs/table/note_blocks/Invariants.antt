use Rattle.std.proofs.Common.{◌≤◌, ℕ, IsTrue, Ok}
use Rattle.hd_volume.specs.Calls.{IsRead}
use Rattle.hd_check_index.proofs.NotedTables.{AreNotedBelow}
use Rattle.hd_check_index.proofs.table.note_blocks.Given as goal

-- the index blocks before n are noted
abbrev pub invariant-loop-n : goal.invariant-loop-n
invariant-loop-n g l = record {
  read : IsRead {T = ℕ} l.fn.volume (Ok 0) l.volume;
  first : 1 ≤ l.n;
  noted : IsTrue l.fn.volume.is_sound → AreNotedBelow l.fn.volume l.n l.blocks.items;
}

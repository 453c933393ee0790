use Rattle.std.proofs.Common.{◌≤◌, ℕ, length, IsTrue, Ok}
use Rattle.hd_volume.specs.Calls.{IsRead}
use Rattle.hd_index_blocks.specs.IndexSets.{index_blocks}
use Rattle.hd_check_index.specs.Standings.{all_rows}
use Rattle.hd_check_index.proofs.RowSteps.{IsNoting}
use Rattle.hd_check_index.proofs.rows.note_row.Given as goal

-- what the blocks before name is noted
abbrev pub invariant-loop-i : goal.invariant-loop-i
invariant-loop-i g l = record {
  read : IsRead {T = ℕ} l.fn.volume (Ok 0) l.volume;
  longer : length l.fn.rows.items ≤ length l.rows.items;
  noting : IsTrue l.fn.volume.is_sound → IsNoting (index_blocks l.key_length l.fn.volume) (all_rows l.key_length l.fn.volume) l.level l.i l.fn.rows.items l.rows.items;
}

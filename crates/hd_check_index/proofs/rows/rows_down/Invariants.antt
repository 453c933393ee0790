use Rattle.std.proofs.Common.{ℕ, IsTrue, Ok}
use Rattle.hd_volume.specs.Calls.{IsRead}
use Rattle.hd_index_blocks.specs.IndexSets.{index_blocks}
use Rattle.hd_check_index.specs.Standings.{all_rows, AreNotedTo}
use Rattle.hd_check_index.proofs.rows.rows_down.Given as goal

-- the rows down to the level are noted
abbrev pub invariant-loop-level : goal.invariant-loop-level
invariant-loop-level g l = record {
  read : IsRead {T = ℕ} l.fn.volume (Ok 0) l.volume;
  noted : IsTrue l.fn.volume.is_sound → AreNotedTo (index_blocks l.key_length l.fn.volume) (all_rows l.key_length l.fn.volume) l.level l.from l.rows.items;
}

abbrev pub decreases-loop-level : goal.decreases-loop-level
decreases-loop-level g l = l.level

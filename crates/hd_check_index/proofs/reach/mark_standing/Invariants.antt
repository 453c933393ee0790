use Rattle.std.proofs.Common.{◌≡◌, length, take}
use Rattle.hd_check_index.specs.Tables.{BlocksAscend}
use Rattle.hd_check_index.specs.Standings.{numbers_of, AreMarks}
use Rattle.hd_check_index.proofs.reach.mark_standing.Given as goal

-- the blocks of the rows before are marked
abbrev pub invariant-loop-i : goal.invariant-loop-i
invariant-loop-i l = record {
  as_many : length l.marks.items ≡ length l.blocks;
  marks_are : BlocksAscend 0 l.blocks → AreMarks l.blocks (numbers_of (take l.i l.rows)) l.marks.items;
}

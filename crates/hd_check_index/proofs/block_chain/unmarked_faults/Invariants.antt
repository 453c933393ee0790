use Rattle.std.proofs.Common.{ℕ}
use Rattle.hd_volume.specs.Entries.{entry_blocks}
use Rattle.hd_check_index.specs.IndexPhases.{OfRightBlocks, AreMarks}
use Rattle.hd_check_index.proofs.ChainLists.{AreListedTo}
use Rattle.hd_check_index.proofs.block_chain.unmarked_faults.Given as goal

-- the blocks before that have no mark are listed
abbrev pub invariant-loop-i : goal.invariant-loop-i
invariant-loop-i l =
    (top : ℕ) → OfRightBlocks l.blocks top l.size (λ d v. AreMarks l.blocks (entry_blocks v) l.marks → AreListedTo d v 10 l.blocks l.i l.faults.items)

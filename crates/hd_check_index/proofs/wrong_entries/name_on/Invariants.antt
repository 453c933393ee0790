use Rattle.std.proofs.Common.{ℕ, List}
use Rattle.hd_check_blocks.specs.DataBlocks.{OfDataBlock}
use Rattle.hd_check_index.specs.DataBlocks.{FirstNameRoots, AreFirstNoted}
use Rattle.hd_check_index.proofs.wrong_entries.name_on.Given as goal

-- the entries from the index on name roots so far, and are noted
abbrev pub invariant-loop-next : goal.invariant-loop-next
invariant-loop-next l = record {
  right : OfDataBlock l.dbd l.places l.bytes l.first (λ v. FirstNameRoots l.dbd v l.block.key_length l.block.bytes.now l.index → FirstNameRoots l.dbd v l.block.key_length l.block.bytes.now l.next);
  named : (before : List ℕ) → AreFirstNoted before l.block.key_length l.block.bytes.now l.index l.fn.named.items → AreFirstNoted before l.block.key_length l.block.bytes.now l.next l.named.items;
}

use Rattle.std.proofs.Common.{◌≡◌, ◌%◌, ℕ, List, subst, sym}
use Rattle.hd_dbd.specs.declared.facts.SegmentSize.{SegmentSize}
use Rattle.hd_block.specs.Sizes.{size_at}
use Rattle.hd_block.proofs.SizeLemmas.{sizes-whole}
use Rattle.hd_check_blocks.proofs.blocks.stored_block_fault.Goals as goal

pub block_fault-requires-clause-eighths : goal.block_fault-requires-clause-eighths
block_fault-requires-clause-eighths g c =
    let P : List SegmentSize → Type 0 = λ s. (bytes : List ℕ) (place : ℕ) → size_at s bytes place % 8 ≡ 0 in
    subst P (sym c.requires.size.2) (sizes-whole c.args.dbd.now.types)

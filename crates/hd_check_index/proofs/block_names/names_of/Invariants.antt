use Rattle.std.proofs.Common.{◌≡◌, ◌∷◌, map, take}
use Rattle.hd_check_index.specs.declared.noted_blocks.ChainedBlock.{ChainedBlock}
use Rattle.hd_check_index.proofs.block_names.names_of.Given as goal

-- the names of the blocks before are noted
abbrev pub invariant-loop-block : goal.invariant-loop-block
invariant-loop-block l = l.names.items ≡ l.fn.top ∷ map (λ (b : ChainedBlock). b.next) (take l.block-index l.blocks)

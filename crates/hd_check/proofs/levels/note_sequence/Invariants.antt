use Rattle.std.proofs.Common.{◌≡◌, take}
use Rattle.hd_check.proofs.NotedSequence.{low_numbers}
use Rattle.hd_check.proofs.levels.note_sequence.Given as goal

-- the blocks before are noted, where they are of level 0
abbrev pub invariant-loop-block : goal.invariant-loop-block
invariant-loop-block l = l.sequence.items ≡ low_numbers (take l.block-index l.blocks)

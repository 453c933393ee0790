use Rattle.std.proofs.Common.{◌≡◌, ℕ, length}
use Rattle.hd_volume.specs.Volumes.{VolumeState}
use Rattle.hd_check_index.specs.IndexPhases.{IsChainable}
use Rattle.hd_check_index.proofs.Walks.{IsWalking}
use Rattle.hd_check_index.proofs.block_chain.walk.Given as goal

-- the walk has come to the next block
abbrev pub invariant-loop-turn : goal.invariant-loop-turn
invariant-loop-turn l = record {
  as_many : length l.marks.items ≡ length l.blocks;
  walking : (k : ℕ) (v : VolumeState) → IsChainable k v l.blocks l.fn.top → IsWalking v l.fn.top l.blocks l.chain.items l.marks.items l.next l._turn;
}

use Rattle.std.proofs.Common.{◌≤◌, ◌+◌, ℕ, List, length}
use Rattle.hd_image.specs.BlockFaults.{AreFreeElements, HasFreeElements}
use Rattle.hd_check_blocks.proofs.free_elements.is_chain_right.Given as goal

-- what is left of the chain is right just where the whole is
abbrev pub invariant-loop-turn : goal.invariant-loop-turn
invariant-loop-turn l = record {
  right : (places : List ℕ) → AreFreeElements l.block l.end l.next places → (all : List ℕ) × HasFreeElements l.block all;
  wrong : (all : List ℕ) → HasFreeElements l.block all → (places : List ℕ) × AreFreeElements l.block l.end l.next places;
  past : l._turn + 7 ≤ l.end;
  within : l.end ≤ length l.block;
}

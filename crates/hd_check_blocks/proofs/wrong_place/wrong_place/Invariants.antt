use Rattle.std.proofs.Common.{◌≡◌, ◌-◌, ◌++◌, ℕ, List, length}
use Rattle.hd_block.specs.Walk.{parts_in}
use Rattle.hd_image.specs.BlockFaults.{HasFreeElements}
use Rattle.hd_check_blocks.specs.Places.{places_in}
use Rattle.hd_check_blocks.proofs.Readings.{IsReadUpTo}
use Rattle.hd_check_blocks.proofs.NotedParts.{places_from}
use Rattle.hd_check_blocks.proofs.wrong_place.wrong_place.Given as goal

-- the block is read up to the place, and the segments before it are noted
abbrev pub invariant-reading : goal.invariant-reading
invariant-reading l = record {
  read : (places : List ℕ) → HasFreeElements l.block places → IsReadUpTo l.sizes l.block places l.at.place l.at.next;
  noted : l.places.items ++ places_from l.sizes l.block l.first l.at.place l.at.next ≡ l.fn.places.items ++ places_in l.block l.first (parts_in l.sizes l.block);
}

-- the bytes that are left
abbrev pub decreases-reading : goal.decreases-reading
decreases-reading l = length l.block - l.at.place

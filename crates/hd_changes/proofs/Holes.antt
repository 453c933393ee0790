-- Holes are no longer than blocks.
use Rattle.std.proofs.Common.{◌≡◌, ℕ, ◌≤◌, length, arith}
use Rattle.hd_bytes.proofs.BlockLemmas.{length-block}
use Rattle.hd_block.specs.Parts.{parts_of}
use Rattle.hd_block.specs.Walk.{parts_in}
use Rattle.hd_block.proofs.PartLemmas.{parts-divided}
use Rattle.hd_volume.specs.Volumes.{VolumeState, IsFormatted, block_at}
use Rattle.hd_volume.specs.Rooms.{HasHole, largest_hole}
use Rattle.hd_volume.proofs.EditLemmas.{largest-within}
use Rattle.std.proofs.Common.{ap}

pub hole_small : (v : VolumeState) (n : ℕ) → IsFormatted v → HasHole v n → n ≤ v.size
hole_small v n F H =
    let E = F.divided H.block H.is_data in
    let large : n ≤ largest_hole (parts_in v.sizes (block_at v H.block)) = H.large in
    let within : largest_hole (parts_of 8 E.extents) ≤ length (block_at v H.block) = largest-within v.sizes (block_at v H.block) 8 _ E.extents E.divides in
    let parts : largest_hole (parts_in v.sizes (block_at v H.block)) ≡ largest_hole (parts_of 8 E.extents)
    = ap largest_hole (parts-divided v.sizes (block_at v H.block) E.extents E.divides E.whole) in
    let long : length (block_at v H.block) ≡ v.size = length-block v.size H.block v.image H.is_data.there in
    omega arith

-- A segment in the bytes of its data block.
use Rattle.std.proofs.Common.{◌≡◌, ℕ, ◌+◌, ◌-◌, ◌*◌, ◌/◌, ◌%◌, ◌<◌, List, length, drop, min, Some, sym, ap, ◌∙◌, arith}
use Rattle.std.proofs.lemmas.Nat.{div-mul-add, mod-mul-add}
use Rattle.std.proofs.Math.Nat.{min-le_left}
use Rattle.std.proofs.lemmas.List.{length-take}
use Rattle.hd_bytes.specs.Ranges.{bytes_at}
use Rattle.hd_block.specs.Sizes.{size_at}
use Rattle.hd_volume.specs.Volumes.{VolumeState, block_at, IsFormatted}
use Rattle.hd_volume.specs.Records.{find}
use Rattle.hd_volume.specs.Calls.{HasSegment}
use Rattle.hd_volume.proofs.MapLemmas.{segment-read}

-- what is read of a block from an address on, as far as its segment goes, is the segment there
pub read-there : (v : VolumeState) (n address first at end : ℕ) (b : List ℕ) → IsFormatted v → HasSegment v address 0 → b ≡ block_at v n → first ≡ n * v.size → address ≡ first + at → at < length b
    → end ≡ min (at + size_at v.sizes b at) (length b) → find v address ≡ Some (bytes_at b at (end - at))
read-there v n address first at end b f h is begins place low over =
    let long : length b ≡ min v.size (length (drop-part)) = ap (λ (xs : List ℕ). length xs) is ∙ length-take v.size drop-part in
    let short : at < v.size = within at (length b) v.size _ low long in
    let whole : address ≡ n * v.size + at = place ∙ ap (λ (x : ℕ). x + at) begins in
    let number : address / v.size ≡ n = ap (λ (x : ℕ). x / v.size) whole ∙ div-mul-add n v.size at short in
    let offset : address % v.size ≡ at = ap (λ (x : ℕ). x % v.size) whole ∙ mod-mul-add n v.size at short in
    segment-read v address 0 at end b f h (sym offset) (is ∙ ap (block_at v) (sym number)) over
  where
    drop-part : List ℕ
    drop-part = drop (n * v.size) v.image

    within : (at len size rest : ℕ) → at < len → len ≡ min size rest → at < size
    within at len size rest low is = (let most = min-le_left size rest in omega arith)

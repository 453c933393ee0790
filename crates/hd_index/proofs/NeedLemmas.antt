-- The blocks that a new key needs.
use Rattle.std.proofs.Common.{◌≡◌, inl, inr, ℕ, ◌+◌, ◌<◌, ◌≤◌, List, refl, ne_eqb, arith}
use Rattle.hd_volume.specs.Headers.{header_of}
use Rattle.hd_volume.specs.Volumes.{VolumeState, IsKind, IsFormatted}
use Rattle.hd_volume.specs.Calls.{KeepsIndex}
use Rattle.hd_index_blocks.specs.IndexSets.{HasIndexSet}
use Rattle.hd_index_blocks.specs.Needs.{entry_growth}
use Rattle.hd_index_blocks.proofs.Needs.{few-needed}
use Rattle.hd_index_blocks.proofs.StayingSets.{index-sets-stay}
use Rattle.hd_index.specs.Places.{blocks_needed}

-- where a state has the image of another they are the same
pub needed-same : (k : ℕ) (u v : VolumeState) (key : List ℕ) → v.size ≡ u.size → v.image ≡ u.image → blocks_needed k v key ≡ blocks_needed k u key
needed-same k u v key size image = λ i. blocks_needed k (record v { size = size i; image = image i }) key

-- and so is the growth
pub growth-same : (u v : VolumeState) → v.image ≡ u.image → entry_growth v ≡ entry_growth u
unfolding entry_growth
growth-same u v image = rw image refl

-- they are never more than the growth
pub needed-most : (k : ℕ) (v : VolumeState) (key : List ℕ) → HasIndexSet k v → blocks_needed k v key ≤ entry_growth v
needed-most k v key x = few-needed k v key x

-- few blocks are ever needed
pub few-grown : (k : ℕ) (v : VolumeState) → HasIndexSet k v → entry_growth v < 1000
unfolding entry_growth
few-grown k v x =
    let high : (header_of v.image).height ≤ 64 = elim x.height [ inl none ↦ (let zero = none.1 in omega arith) | inr some ↦ some.2 ] in
    rw (ne_eqb (header_of v.image).version 1 x.version) (let few : (header_of v.image).height + 1 < 1000 = omega arith in few)

-- where the index stays, with what the header says of it, the blocks needed are the same
pub needed-stays : (k : ℕ) (v w : VolumeState) (key : List ℕ) → HasIndexSet k v → IsFormatted w → w.size ≡ v.size
    → header_of w.image ≡ record (header_of v.image) { count = (header_of w.image).count; first_root = (header_of w.image).first_root; last_root = (header_of w.image).last_root }
    → KeepsIndex v w → ((n : ℕ) → IsKind w 2 n → IsKind v 2 n) → blocks_needed k w key ≡ blocks_needed k v key
needed-stays k v w key x f size header keeps back = (index-sets-stay k v w x f size header keeps back).3 key

-- The blocks that a new key needs.
use Rattle.std.proofs.Common.{◌≡◌, ◌≢◌, inl, inr, ℕ, zero, suc, ◌+◌, ◌-◌, ◌<◌, ◌≤◌, ◌==◌, ◌&&◌, cond, Bool, true, false, List, refl, arith, ne_eqb}
use Rattle.std.proofs.lemmas.Bool.{cases_eq, eq-eqb}
use Rattle.hd_volume.specs.Headers.{header_of}
use Rattle.hd_volume.specs.Rooms.{one_if}
use Rattle.hd_volume.specs.Volumes.{VolumeState}
use Rattle.hd_volume.specs.Indexes.{entry_room}
use Rattle.hd_index_blocks.specs.Maps.{greatest_below}
use Rattle.hd_index_blocks.specs.Levels.{IndexBlocks}
use Rattle.hd_index_blocks.specs.Ways.{child_of}
use Rattle.hd_index_blocks.specs.IndexSets.{index_blocks, top_level, index_entries, HasIndexSet}
use Rattle.hd_index_blocks.specs.Needs.{entry_growth, is_full, full_blocks, set_blocks_needed}
use Rattle.hd_index_blocks.specs.VolumeLaws.{FewBlocksAreNeeded}

at-most-one : (b : Bool) → one_if b ≤ 1
at-most-one true = omega arith
at-most-one false = omega arith

-- no more blocks are full than there are levels
pub full-most : (c : IndexBlocks) (room : ℕ) (key : List ℕ) (l n : ℕ) → full_blocks c room key l n ≤ suc l
full-most c room key zero n = at-most-one (is_full c room n)
full-most c room key (suc l) n =
    let below = full-most c room key l (child_of key (c.entries n)) in
    let one = at-most-one (full_blocks c room key l (child_of key (c.entries n)) == suc l && is_full c room n) in
    omega arith

growth-is : (k : ℕ) (v : VolumeState) → HasIndexSet k v → entry_growth v ≡ (header_of v.image).height + 1
unfolding entry_growth
growth-is k v x = rw (ne_eqb (header_of v.image).version 1 x.version) refl

by-top : (top height level full : ℕ) (all : Bool) → level ≡ height - 1 → (top ≢ 0 → 0 < height) → full ≤ suc level → cond (top == 0) 1 (full + one_if all) ≤ height + 1
by-top top height level full all is some most =
    elim (cases_eq top 0) [
      | inl z ↦ rw (eq-eqb top 0 z) (let h : 1 ≤ height + 1 = omega arith in h)
      | inr other ↦
          (let one = at-most-one all in
          let high = some other in
          let h : full + one_if all ≤ height + 1 = omega arith in rw (ne_eqb top 0 other) h)
    ]

pub few-needed : FewBlocksAreNeeded
few-needed k v key x =
    let full : ℕ = full_blocks (index_blocks k v) (entry_room k v.size) (greatest_below key key (index_entries k v)) (top_level v) (header_of v.image).top in
    let most : full ≤ suc (top_level v) = full-most (index_blocks k v) (entry_room k v.size) (greatest_below key key (index_entries k v)) (top_level v) (header_of v.image).top in
    let high : (header_of v.image).top ≢ 0 → 0 < (header_of v.image).height = λ other. elim x.height [ inl none ↦ absurd (other none.0) | inr some ↦ some.1 ] in
    let h : set_blocks_needed k v key ≤ (header_of v.image).height + 1 =
    by-top (header_of v.image).top (header_of v.image).height (top_level v) full (full == (header_of v.image).height) refl high most in
    let g = growth-is k v x in
    omega arith

-- Room for rows, by their number and the bytes that they take together; and where it is refused, it lacks.
use Rattle.std.proofs.Common.{◌≡◌, ◌⊎◌, ℕ, ◌+◌, ◌<◌, ◌≤◌, List, [], ◌∷◌, length, true, cond, refl, sym, subst, ◌∙◌, inl, inr, arith}
use Rattle.std.specs.Prelude.{◌==◌}
use Rattle.std.proofs.lemmas.Bool.{eq-eqb, or_left, cond-true}
use Rattle.hd_dbd.specs.Types.{SegmentType}
use Rattle.hd_dbd.specs.Hierarchy.{Database}
use Rattle.hd_dbd.specs.Prefixes.{size_with}
use Rattle.hd_dbd.specs.Segment.{Segment}
use Rattle.hd_calls.specs.Runs.{LacksRoom, has_root, stored_sizes}
use Rattle.hd_volume.specs.Volumes.{VolumeState}
use Rattle.hd_index_blocks.specs.Needs.{entry_growth, IsHighest}
use Rattle.hd_volume.specs.Rooms.{spare, HasHole}
use Rattle.hd_volume.proofs.JoinLemmas.{AreOne, hole-after}
use Rattle.hd_image.specs.Records.{IsVolumeOf}
use Rattle.hd_changes.specs.VolumeImages.{images_of}
use Rattle.hd_changes.proofs.VolumeImages.{lacking-room}
use Rattle.hd_changes.specs.Rooms.{HasRoom, HasRoomFor, HasMemoryFor, HasRootRoom, HasRootRoomFor, blocks_for_entry}

module _ (d : Database) (v : VolumeState) (rows : List Segment) (count total : ℕ) (many : count ≡ length rows) (large : total ≡ stored_sizes d.types rows) where
  pub room_of : HasRoom count total v → HasRoomFor d.types v rows
  room_of (inl blocks) = inl (subst (λ (n : ℕ). n ≤ spare v) many blocks)
  room_of (inr hole) = inr (subst (HasHole v) large hole)

  pub memory_of : (count ≤ v.room) ⊎ HasHole v total → HasMemoryFor d.types v rows
  memory_of (inl blocks) = inl (subst (λ (n : ℕ). n ≤ v.room) many blocks)
  memory_of (inr hole) = inr (subst (HasHole v) large hole)

  pub root_room_of : (key : List ℕ) → HasRootRoom d key count total v → HasRootRoomFor d v key rows
  root_room_of key (low, inl blocks) = (low, inl (subst (λ (n : ℕ). n + blocks_for_entry d v key ≤ spare v) many blocks))
  root_room_of key (low, inr both) = (low, inr (subst (HasHole v) large both.0, both.1, both.2))

-- one row takes what it takes
pub size_alone : (types : List SegmentType) (row : Segment) → stored_sizes types (row ∷ []) ≡ size_with types row.code (length row.bytes)
size_alone types row = omega arith

-- for one root
pub one_root_room : (d : Database) (v : VolumeState) (key : List ℕ) (row : Segment) (total : ℕ) → total ≡ size_with d.types row.code (length row.bytes) → HasRootRoom d key 1 total v → HasRootRoomFor d v key (row ∷ [])
one_root_room d v key row total total_is room =
    root_room_of d v (row ∷ []) 1 total refl (total_is ∙ sym (size_alone d.types row)) key room

-- ---- rows refused

-- rows of which none need be a root
pub no_rows_room : (d : Database) (v : VolumeState) (rows : List Segment) → IsVolumeOf d v → spare v < length rows → (HasHole v (stored_sizes d.types rows) → ⊥)
    → LacksRoom (images_of d) d.types v.image rows (has_root rows)
no_rows_room d v rows V few none =
    (lacking-room d v rows (has_root rows) V).1 (inl (let low : length rows ≤ length rows + cond (has_root rows) (entry_growth v) 0 = omega arith in omega arith), inr none)

-- rows of which the first is a root
pub no_root_rows_room : (d : Database) (v : VolumeState) (row : Segment) (rows : List Segment) → IsVolumeOf d v → row.code ≡ 1 → (spare v < length (row ∷ rows) + entry_growth v) ⊎ IsHighest v
    → LacksRoom (images_of d) d.types v.image (row ∷ rows) (has_root (row ∷ rows))
no_root_rows_room d v row rows V root few =
    let is : has_root (row ∷ rows) ≡ true = or_left (row.code == 1) (has_root rows) (eq-eqb row.code 1 root) in
    let grows : cond (has_root (row ∷ rows)) (entry_growth v) 0 ≡ entry_growth v = cond-true (has_root (row ∷ rows)) (entry_growth v) 0 is in
    (lacking-room d v (row ∷ rows) (has_root (row ∷ rows)) V).1 (elim few [ inl lacks ↦ inl (let g : cond (has_root (row ∷ rows)) (entry_growth v) 0 ≡ entry_growth v = grows in omega arith) | inr high ↦ inr (is, high) ], inl is)

-- ---- volumes of one image

pub hole_kept : (v w : VolumeState) (n : ℕ) → w.image ≡ v.image → w.size ≡ v.size → w.sizes ≡ v.sizes → HasHole v n → HasHole w n
hole_kept v w n image size sizes hole = (let one : AreOne w v = record { same = record { size = sym size; sizes = sym sizes }; image = sym image } in hole-after one n hole)

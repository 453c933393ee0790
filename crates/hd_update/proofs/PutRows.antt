-- A row that is linked, as one that was put in.
use Rattle.std.proofs.Common.{◌≡◌, ◌≢◌, ℕ, ◌+◌, [], ◌∷◌, length, cond, subst, arith, inl, inr}
use Rattle.hd_dbd.specs.Hierarchy.{Database}
use Rattle.hd_dbd.specs.Segment.{Segment}
use Rattle.hd_dbd.specs.Prefixes.{size_with}
use Rattle.hd_dbd.specs.Forest.{Forest}
use Rattle.hd_calls.specs.Runs.{LacksRoom, has_root, stored_sizes}
use Rattle.hd_volume.specs.Volumes.{VolumeState}
use Rattle.hd_volume.specs.Rooms.{spare, HasHole}
use Rattle.hd_index_blocks.specs.Needs.{entry_growth}
use Rattle.hd_links.specs.Placed.{Placed}
use Rattle.hd_image.specs.Records.{links_of, IsVolumeOf}
use Rattle.hd_image.specs.Holding.{HoldsPlaced}
use Rattle.hd_forest.specs.Updates.{MayLink, IsLinked}
use Rattle.hd_changes.specs.VolumeImages.{images_of}
use Rattle.hd_changes.proofs.NewPaths.{begin-below}
use Rattle.hd_changes.proofs.VolumeImages.{lacking-room}
use Rattle.hd_position.proofs.VolumeMoves.{linked_move}
use Rattle.hd_update.specs.Putting.{IsPutIn}

-- below another row
pub put_below : (d : Database) (v w : VolumeState) (f : Forest Placed) (h y a : ℕ) (row : Segment) → HoldsPlaced d v f → h ≢ 0
    → MayLink d.types (links_of d.types v) h y row → IsLinked d v h y row a w → IsPutIn d v f h y row a w
put_below d v w f h y a row holds below may I =
    let M = linked_move d v w h y row a f holds.volume may I holds.records in
    let p : Placed = record { address = a; segment = row } in
    record {
      number = M.0;
      free = I.free;
      goes_in = M.1;
      is_in = begin-below d v w f h y M.0 p holds below M.1 I;
      moves = M.2;
    }

-- no block to spare and no hole: there is no room
pub no_room : (d : Database) (v : VolumeState) (row : Segment) → IsVolumeOf d v → spare v ≡ 0 → (HasHole v (size_with d.types row.code (length row.bytes)) → ⊥)
    → LacksRoom (images_of d) d.types v.image (row ∷ []) (has_root (row ∷ []))
no_room d v row V none no_hole =
    (lacking-room d v (row ∷ []) (has_root (row ∷ [])) V).1 (
      inl (let size : length (row ∷ []) + cond (has_root (row ∷ [])) (entry_growth v) 0 ≡ 1 + cond (has_root (row ∷ [])) (entry_growth v) 0 = omega arith in omega arith),
      inr (λ hole. no_hole (subst (HasHole v) (let own : ℕ = size_with d.types row.code (length row.bytes) in let e : stored_sizes d.types (row ∷ []) ≡ own = omega arith in e) hole)),
    )

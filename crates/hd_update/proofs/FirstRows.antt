-- The first of some rows that go in one below the other: room and memory by its code.
use Rattle.std.proofs.Common.{◌≡◌, ◌≢◌, ℕ, List, ◌∷◌, refl, sym, subst}
use Rattle.hd_dbd.specs.Hierarchy.{Database}
use Rattle.hd_dbd.specs.Rows.{key_of}
use Rattle.hd_dbd.specs.Segment.{Segment}
use Rattle.hd_volume.specs.Volumes.{VolumeState}
use Rattle.hd_changes.specs.Rooms.{HasRootRoomFor, HasRootMemoryFor}
use Rattle.hd_update.specs.Putting.{LastsBelowRoot}
use Rattle.hd_update.specs.NewRows.{HasRoomAndMemory, LastsForOthers, LastsBelow}

-- for a root
pub root_room : (d : Database) (v : VolumeState) (code : ℕ) (bytes key : List ℕ) (rows : List Segment) → code ≡ 1 → key ≡ key_of d.types (record { code = 1; bytes = bytes })
    → HasRoomAndMemory d v (record { code = code; bytes = bytes }) rows → HasRootRoomFor d v key (record { code = 1; bytes = bytes } ∷ rows) × HasRootMemoryFor v (record { code = 1; bytes = bytes } ∷ rows)
root_room d v code bytes key rows root is R = at (subst (λ (c : ℕ). HasRoomAndMemory d v (record { code = c; bytes = bytes }) rows) root R)
  where
    at : HasRoomAndMemory d v (record { code = 1; bytes = bytes }) rows → HasRootRoomFor d v key (record { code = 1; bytes = bytes } ∷ rows) × HasRootMemoryFor v (record { code = 1; bytes = bytes } ∷ rows)
    at R = (subst (λ (k : List ℕ). HasRootRoomFor d v k (record { code = 1; bytes = bytes } ∷ rows)) (sym is) (R.root refl).0, (R.root refl).1)

-- which last for the rows below it
pub lasts_root : (d : Database) (v w : VolumeState) (code : ℕ) (bytes key : List ℕ) → code ≡ 1 → key ≡ key_of d.types (record { code = 1; bytes = bytes }) → LastsBelowRoot d v key (record { code = 1; bytes = bytes }) w
    → LastsForOthers d v (record { code = code; bytes = bytes }) w
lasts_root d v w code bytes key root is lasts rows sound R =
    (let room = root_room d v code bytes key rows root is R in lasts rows sound room.0 room.1)

-- for a dependent
pub lasts_below : (d : Database) (v w : VolumeState) (row : Segment) → row.code ≢ 1 → LastsBelow d v row w → LastsForOthers d v row w
lasts_below d v w row other lasts rows sound R = lasts rows sound (R.below other).0 (R.below other).1

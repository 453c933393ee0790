-- A root that is linked and entered into the index, as a row that was put in.
use Rattle.std.proofs.Common.{◌≡◌, ℕ, ◌+◌, ◌<◌, ◌≤◌, List, [], ◌∷◌, length, true, false, refl, ap, ◌∙◌, subst, arith, inl, inr, ◌⊎◌}
use Rattle.hd_dbd.specs.declared.answer.Refused.{Refused}
use Rattle.hd_dbd.specs.declared.answer.Refused.TheVariants.{Memory, Full, Device}
use Rattle.hd_dbd.specs.Hierarchy.{Database}
use Rattle.hd_dbd.specs.Segment.{Segment}
use Rattle.hd_dbd.specs.Rows.{key_of}
use Rattle.hd_dbd.specs.Prefixes.{size_with}
use Rattle.hd_dbd.specs.Forest.{Forest}
use Rattle.hd_calls.specs.Runs.{LacksRoom, has_root, blocks_for}
use Rattle.hd_volume.specs.Headers.{header_of}
use Rattle.hd_volume.specs.Volumes.{VolumeState}
use Rattle.hd_volume.specs.Rooms.{spare, HasHole}
use Rattle.hd_volume.specs.Indexes.{root_key_length}
use Rattle.hd_index_blocks.specs.Needs.{entry_growth, IsHighest}
use Rattle.hd_volume.proofs.JoinLemmas.{AreOne, one-spare}
use Rattle.hd_links.specs.Links.{Links}
use Rattle.hd_links.specs.Placed.{Placed}
use Rattle.hd_links.specs.LastRows.{segments_of}
use Rattle.hd_image.specs.Records.{links_of, IsVolumeOf}
use Rattle.hd_image.proofs.OneImage.{links-same}
use Rattle.hd_image.specs.Holding.{HoldsPlaced}
use Rattle.hd_forest.specs.Updates.{MayLink, IsLinked}
use Rattle.hd_index.specs.Changes.{entries_for}
use Rattle.hd_index.specs.Maps.{with_entry}
use Rattle.hd_index.specs.Places.{blocks_needed}
use Rattle.hd_changes.specs.Entered.{IsEntered}
use Rattle.hd_changes.specs.Rooms.{blocks_for_entry}
use Rattle.hd_changes.specs.VolumeImages.{images_of}
use Rattle.hd_changes.proofs.NewPaths.{begin-roots}
use Rattle.hd_changes.proofs.Rooms.{first-roots, entries-room}
use Rattle.hd_changes.proofs.VolumeImages.{lacking-room}
use Rattle.hd_position.proofs.VolumeMoves.{linked_move}
use Rattle.hd_update.specs.Putting.{IsPutIn, CanPutRoot}

-- a root that was linked, and then entered
pub put_root_in : (d : Database) (v w x : VolumeState) (f : Forest Placed) (y a more : ℕ) (bytes key : List ℕ) → HoldsPlaced d v f
    → MayLink d.types (links_of d.types v) 0 y (record { code = 1; bytes = bytes }) → IsLinked d v 0 y (record { code = 1; bytes = bytes }) a w
    → key ≡ key_of d.types (record { code = 1; bytes = bytes })
    → IsEntered d w (with_entry (record { key = key; address = a }) (entries_for d w)) more x → spare w ≤ spare x + blocks_for_entry d w key
    → IsPutIn d v f 0 y (record { code = 1; bytes = bytes }) a x
put_root_in d v w x f y a more bytes key holds may I is E room =
    let row : Segment = record { code = 1; bytes = bytes } in
    let p : Placed = record { address = a; segment = row } in
    let M = linked_move d v w 0 y row a f holds.volume may I holds.records in
    record {
      number = M.0;
      free = I.free;
      goes_in = M.1;
      is_in =
          begin-roots d v w x f y M.0 more p holds may M.1 I (subst (λ (k : List ℕ). IsEntered d w (with_entry (record { key = k; address = a }) (entries_for d w)) more x) is E)
          (subst (λ (k : List ℕ). spare w ≤ spare x + blocks_for_entry d w k) is room);
      moves = M.2;
    }

-- ---- what refuses it

module _ (d : Database) (v : VolumeState) (y : ℕ) (bytes key : List ℕ) (C : CanPutRoot d v y (record { code = 1; bytes = bytes }) key) where
  -- the link is refused by a failed access alone
  pub link_refused : (e : Refused) → (e ≡ Memory) ⊎ (e ≡ Full) ⊎ (e ≡ Device) → (e ≡ Full → (spare v ≡ 0) × (HasHole v (size_with d.types 1 (length bytes)) → ⊥)) → (e ≡ Memory → v.room ≡ 0)
      → (e ≡ Memory → HasHole v (size_with d.types 1 (length bytes)) → ⊥) → e ≡ Device
  link_refused e (inl memory) full room hole = absurd ((first-roots d v key (record { code = 1; bytes = bytes }) C.others).1 C.memory (room memory, hole memory))
  link_refused e (inr (inl is)) full room hole = absurd ((first-roots d v key (record { code = 1; bytes = bytes }) C.others).0 C.room (full is))
  link_refused e (inr (inr device)) full room hole = device

  -- and so is the entry
  pub entry_refused : (w : VolumeState) (a : ℕ) → IsLinked d v 0 y (record { code = 1; bytes = bytes }) a w → v.room ≤ w.room + 1
      → (e : Refused) → (e ≡ Memory) ⊎ (e ≡ Full) ⊎ (e ≡ Device) → (e ≡ Full → (spare w < blocks_needed (root_key_length d.types) w key) ⊎ IsHighest w) → (e ≡ Memory → w.room < entry_growth w) → e ≡ Device
  entry_refused w a I room e (inl memory) full few =
      (let enough : entry_growth w ≤ w.room = (entries-room d v w C.root.placed key y a (record { code = 1; bytes = bytes }) C.others C.root.holds C.root.later I).1 room C.memory in
      let less : w.room < entry_growth w = few memory in absurd (omega arith))
  entry_refused w a I room e (inr (inl is)) full few =
      (let room : (IsHighest w → ⊥) × (blocks_for_entry d w key ≤ spare w) = (entries-room d v w C.root.placed key y a (record { code = 1; bytes = bytes }) C.others C.root.holds C.root.later I).0 C.room in
      let enough : blocks_for_entry d w key ≤ spare w = room.1 in
      absurd (elim (full is) [ inl less ↦ omega arith | inr high ↦ room.0 high ]))
  entry_refused w a I room e (inr (inr device)) full few = device

-- a root lacks room where fewer blocks are to spare than it and its entry may need, or the index may have no level more
pub no_root_room : (d : Database) (v : VolumeState) (bytes : List ℕ) → IsVolumeOf d v → (spare v < 1 + entry_growth v) ⊎ IsHighest v
    → LacksRoom (images_of d) d.types v.image (record { code = 1; bytes = bytes } ∷ []) true
no_root_room d v bytes V (inl few) = (lacking-room d v (record { code = 1; bytes = bytes } ∷ []) true V).1 (inl few, inl refl)
no_root_room d v bytes V (inr high) = (lacking-room d v (record { code = 1; bytes = bytes } ∷ []) true V).1 (inr (refl, high), inl refl)

-- ---- before calls that only read

-- the spare blocks that a row may need do not depend on what a store counts
pub put_before : (d : Database) (v mid w : VolumeState) (f : Forest Placed) (h y : ℕ) (row : Segment) (a : ℕ) → AreOne v mid → HoldsPlaced d v f → IsPutIn d mid f h y row a w → IsPutIn d v f h y row a w
put_before d v mid w f h y row a one holds P =
    let rows : List Segment = segments_of (record { address = a; segment = row } ∷ []) in
    record {
      number = P.number;
      free = subst (λ (m : Links). m.here a ≡ false) (links-same d.types v mid one.image one.same.size one.same.sizes) P.free;
      goes_in = P.goes_in;
      is_in = record {
        held = holds;
        holds = P.is_in.holds;
        within = P.is_in.within;
        rows = P.is_in.rows;
        places = P.is_in.places;
        childless = P.is_in.childless;
        takes = P.is_in.takes;
        version = P.is_in.version ∙ ap (λ (x : List ℕ). (header_of x).version) one.image;
        largest = P.is_in.largest ∙ ap (λ (x : List ℕ). (header_of x).largest) one.image;
        spares =
            (let own : spare mid ≤ spare w + blocks_for (images_of d) mid.image rows (has_root rows) = P.is_in.spares in
            let same : spare mid ≡ spare v = one-spare one in
            let need : blocks_for (images_of d) mid.image rows (has_root rows) ≡ blocks_for (images_of d) v.image rows (has_root rows) = ap (λ (x : List ℕ). blocks_for (images_of d) x rows (has_root rows)) one.image in
            omega arith);
      };
      moves = P.moves;
    }

-- A root that is linked behind the last row of a volume, and entered into its index.
use Rattle.std.proofs.Common.{◌≡◌, ◌⊎◌, inr, ℕ, ◌+◌, ◌-◌, ◌<◌, ◌≤◌, List, [], ◌∷◌, ◌++◌, length, take, true, false, IsTrue, Option, None, refl, sym, ap, subst, ◌∙◌, arith, inl}
use Rattle.std.specs.Prelude.{slice_get}
use Rattle.std.specs.Option.{option_map_or}
use Rattle.hd_dbd.specs.declared.hierarchy.FreeSpace.{FreeSpace}
use Rattle.hd_dbd.specs.Types.{SegmentType}
use Rattle.hd_dbd.specs.Hierarchy.{Database}
use Rattle.hd_dbd.specs.DatabaseRules.{well_formed}
use Rattle.hd_dbd.specs.Prefixes.{size_with}
use Rattle.hd_dbd.specs.Segment.{Segment}
use Rattle.hd_dbd.specs.Rows.{row_fits, level, key_of}
use Rattle.hd_dbd.specs.Loads.{load_fault}
use Rattle.hd_dbd.specs.Forest.{Forest}
use Rattle.hd_volume.specs.Headers.{Header}
use Rattle.hd_volume.specs.Volumes.{VolumeState}
use Rattle.hd_volume.specs.Rooms.{spare, HasHole}
use Rattle.hd_volume.specs.Entries.{Entry}
use Rattle.hd_volume.specs.Indexes.{root_key_length}
use Rattle.hd_index_blocks.specs.Needs.{entry_growth, IsHighest}
use Rattle.hd_links.specs.Placed.{Placed}
use Rattle.hd_links.specs.Changes.{with_leaf}
use Rattle.hd_links.specs.LastRows.{last_on, segments_of, parent_on_path, twin_on_path, IsLoadedLast}
use Rattle.hd_image.specs.Records.{links_of, IsVolumeOf}
use Rattle.hd_image.specs.Holding.{HoldsPlaced}
use Rattle.hd_forest.specs.Updates.{MayLink, IsLinked}
use Rattle.hd_index.specs.Changes.{IsIndexOf, entries_for, IsIndexChange}
use Rattle.hd_index.specs.Maps.{address_of, with_entry}
use Rattle.hd_index.specs.Places.{blocks_needed}
use Rattle.hd_changes.specs.Entered.{entry_of, IsEntered}
use Rattle.hd_changes.proofs.RootTypes.{root-parent, root-level}
use Rattle.hd_changes.proofs.Rooms.{growth-kept, first-roots, entries-room}
use Rattle.hd_changes.proofs.Volumes.{agree-index, linked-new, linked-root}
use Rattle.hd_changes.specs.VolumeImages.{LacksRoomForRow}
use Rattle.hd_changes.proofs.RoomOf.{no_root_rows_room}
use Rattle.hd_unload.specs.Loads.{IsLoadStep}
use Rattle.hd_unload.specs.Steps.{row_of, CanLoadRoot, HasRootRoom, IsLoadedTo, IsRowLoaded}
use Rattle.hd_unload.proofs.Loaded.{stays-agree, last-at, may-link, rows-grown, segments-kept}

-- ---- a root

-- on a path it has no parent
root-place : (block_size : ℕ) (frspc : FreeSpace) (types : List SegmentType) (bytes : List ℕ) (path : List Placed) → IsTrue (well_formed block_size frspc types)
    → 0 ≡ parent_on_path types path (record { code = 1; bytes = bytes })
root-place block_size frspc types bytes path fit =
    sym (ap (λ (o : Option ℕ). option_map_or (λ _. option_map_or (λ q. q.address) (slice_get path (level types (record { code = 1; bytes = bytes }) - 2)) 0) o 0)
    (root-parent block_size frspc types fit))

-- where it may be loaded it may be linked
pub may-link-root : (d : Database) (v : VolumeState) (bytes : List ℕ) (y : ℕ) → row_fits d.types (record { code = 1; bytes = bytes }) ≡ true
    → CanLoadRoot d v y (record { code = 1; bytes = bytes }) → MayLink d.types (links_of d.types v) 0 y (record { code = 1; bytes = bytes })
may-link-root d v bytes y fits L =
    may-link d v (record { code = 1; bytes = bytes }) 0 y fits (L.0, L.1, L.2, L.3, root-place d.block_size d.frspc d.types bytes L.1 L.2.holds.volume.fit, L.4)

-- there is no room for it where fewer blocks are to spare than it and the index may need, or the index may have no level more
pub lacks-beside : (d : Database) (v : VolumeState) (bytes : List ℕ) → IsVolumeOf d v → (spare v < 1 + entry_growth v) ⊎ IsHighest v → LacksRoomForRow d v (record { code = 1; bytes = bytes })
lacks-beside d v bytes V few = no_root_rows_room d v (record { code = 1; bytes = bytes }) [] V refl few

-- a volume in which it was linked behind the last root, and then one in which it was entered into the index
module _ (d : Database) (v w x : VolumeState) (f : Forest Placed) (y a : ℕ) (bytes : List ℕ) (H : HoldsPlaced d v f)
    (E : IsLoadedLast d.types (links_of d.types v) f 0 y (record { address = a; segment = record { code = 1; bytes = bytes } }))
    (I : IsLinked d v 0 y (record { code = 1; bytes = bytes }) a w) (es : List Entry) (more : ℕ)
    (X : IsEntered d w es more x) (spares : spare w ≤ spare x + more) (few : more ≤ entry_growth w) where
  abbrev root : Segment
  root = record { code = 1; bytes = bytes }

  -- all segments stay, and no more blocks were taken than it may need
  pub root-step : IsLoadStep d v root x
  root-step = record {
    version = ap (λ (z : Header). z.version) X.change.header ∙ ap (λ (z : Header). z.version) I.rest.header;
    largest = ap (λ (z : Header). z.largest) X.change.header ∙ ap (λ (z : Header). z.largest) I.rest.header;
    stays = λ b s.
        let first = segments-kept d v w f 0 y a root H E I b s in
        let then = stays-agree d.types (links_of d.types w) (links_of d.types x) (agree-index d w x more X.change) b first.0 in (then.0, then.1 ∙ first.1);
    room =
        (let linked : spare v ≤ spare w + 1 = I.spares in
        let growth : entry_growth w ≡ entry_growth v = growth-kept d v w f 0 y a root H I in
        omega arith);
  }

-- a root that may be loaded behind the last row of a path comes last
pub root-at : (d : Database) (v : VolumeState) (rows : List Segment) (path : List Placed) (y a : ℕ) (bytes : List ℕ) (L : IsLoadedTo d rows path v)
    → row_fits d.types (record { code = 1; bytes = bytes }) ≡ true → load_fault d.types (segments_of path) (record { code = 1; bytes = bytes }) ≡ None
    → y ≡ twin_on_path d.types path (record { code = 1; bytes = bytes }) → (links_of d.types v).here a ≡ false
    → IsLoadedLast d.types (links_of d.types v) L.placed 0 y (record { address = a; segment = record { code = 1; bytes = bytes } })
root-at d v rows path y a bytes L fits may twin free =
    last-at d v rows path (record { code = 1; bytes = bytes }) 0 y a L fits may (root-place d.block_size d.frspc d.types bytes path L.holds.volume.fit) twin free

-- once it is linked the volume has its index, in which the key is new, and room for the entry
pub root-linked : (d : Database) (v w : VolumeState) (y a : ℕ) (bytes : List ℕ) → row_fits d.types (record { code = 1; bytes = bytes }) ≡ true
    → CanLoadRoot d v y (record { code = 1; bytes = bytes }) → IsLinked d v 0 y (record { code = 1; bytes = bytes }) a w
    → IsIndexOf d w × (address_of (key_of d.types (record { code = 1; bytes = bytes })) (entries_for d w) ≡ None)
root-linked d v w y a bytes fits L I =
    linked-new d v w L.2.placed y a (record { code = 1; bytes = bytes }) L.2.holds L.2.later (may-link-root d v bytes y fits L) I

-- where the volume has room for a root it is not refused as full
pub room-links : (d : Database) (v : VolumeState) (bytes : List ℕ) → HasRootRoom d v (row_of 1 bytes) → spare v ≡ 0 → (HasHole v (size_with d.types 1 (length bytes)) → ⊥) → ⊥
room-links d v bytes room none no-hole = (first-roots d v (key_of d.types (row_of 1 bytes)) (row_of 1 bytes) []).0 room (none, no-hole)

-- and once the root is linked there is room in the index
pub room-enters : (d : Database) (v w : VolumeState) (y a : ℕ) (bytes : List ℕ) → CanLoadRoot d v y (row_of 1 bytes) → HasRootRoom d v (row_of 1 bytes) → IsLinked d v 0 y (row_of 1 bytes) a w
    → (spare w < blocks_needed (root_key_length d.types) w (key_of d.types (row_of 1 bytes))) ⊎ IsHighest w → ⊥
room-enters d v w y a bytes L room I full =
    let key : List ℕ = key_of d.types (row_of 1 bytes) in
    let there = (entries-room d v w L.2.placed key y a (row_of 1 bytes) [] L.2.holds L.2.later I).0 room in
    elim full [ inl few ↦ (let enough : blocks_needed (root_key_length d.types) w key ≤ spare w = there.1 in omega arith) | inr high ↦ there.0 high ]

-- it is loaded once it is linked and entered
pub root-loaded : (d : Database) (v w x : VolumeState) (y a more : ℕ) (bytes key : List ℕ) → row_fits d.types (record { code = 1; bytes = bytes }) ≡ true
    → IsLinked d v 0 y (record { code = 1; bytes = bytes }) a w → x.size ≡ w.size → x.sizes ≡ w.sizes → IsIndexOf d x
    → key ≡ key_of d.types (record { code = 1; bytes = bytes }) → entries_for d x ≡ with_entry (record { key = key; address = a }) (entries_for d w)
    → IsIndexChange w more x → spare w ≤ spare x + more → more ≤ entry_growth w
    → (rows : List Segment) (path : List Placed) → IsLoadedTo d rows path v → load_fault d.types (segments_of path) (record { code = 1; bytes = bytes }) ≡ None
    → y ≡ twin_on_path d.types path (record { code = 1; bytes = bytes })
    → IsRowLoaded d v rows (record { code = 1; bytes = bytes }) (record { address = a; segment = record { code = 1; bytes = bytes } } ∷ []) x
root-loaded d v w x y a more bytes key fits I size sizes index is entry C spares few rows path L may twin =
    let row : Segment = record { code = 1; bytes = bytes } in
    let p : Placed = record { address = a; segment = row } in
    let E = root-at d v rows path y a bytes L fits may twin I.free in
    let X : IsEntered d w (with_entry (entry_of d.types p) (entries_for d w)) more x = record {
      size = size;
      sizes = sizes;
      index = index;
      entries = entry ∙ ap (λ (k : List ℕ). with_entry (record { key = k; address = a }) (entries_for d w)) is;
      change = C;
    } in
    let lowest : level d.types row ≡ 1 = root-level d.block_size d.frspc d.types bytes L.holds.volume.fit fits in
    record {
      loaded = record {
        later = index.index.version;
        placed = with_leaf 0 y p L.placed;
        holds = linked-root d v w x L.placed y a more row L.holds (may-link-root d v bytes y fits (rows, path, L, may, twin)) I X;
        rows_are = rows-grown d v w L.placed 0 y a row L.holds E I ∙ ap (λ (rs : List Segment). rs ++ row ∷ []) L.rows_are;
        last = E.last ∙ ap (λ (n : ℕ). take (n - 1) (last_on L.placed) ++ p ∷ []) lowest;
      };
      step = root-step d v w x L.placed y a bytes L.holds E I _ more X spares few;
    }

-- its path is its own, whatever the path before
pub root-behind : (d : Database) (v x : VolumeState) (code y a : ℕ) (bytes : List ℕ) (rows : List Segment) (path : List Placed) → IsLoadedTo d rows path v
    → (load_fault d.types (segments_of path) (record { code = 1; bytes = bytes }) ≡ None → y ≡ twin_on_path d.types path (record { code = 1; bytes = bytes })
    → IsRowLoaded d v rows (record { code = 1; bytes = bytes }) (record { address = a; segment = record { code = 1; bytes = bytes } } ∷ []) x)
    → code ≡ 1 → row_fits d.types (record { code = code; bytes = bytes }) ≡ true → load_fault d.types (segments_of path) (record { code = code; bytes = bytes }) ≡ None
    → y ≡ twin_on_path d.types path (record { code = code; bytes = bytes })
    → IsRowLoaded d v rows (record { code = code; bytes = bytes })
    (take (level d.types (record { code = code; bytes = bytes }) - 1) path ++ record { address = a; segment = record { code = code; bytes = bytes } } ∷ []) x
root-behind d v x code y a bytes rows path L own is = subst Goal (sym is) of-root
  where
    Goal : ℕ → Type 0
    Goal c =
        row_fits d.types (record { code = c; bytes = bytes }) ≡ true → load_fault d.types (segments_of path) (record { code = c; bytes = bytes }) ≡ None
        → y ≡ twin_on_path d.types path (record { code = c; bytes = bytes })
        → IsRowLoaded d v rows (record { code = c; bytes = bytes })
        (take (level d.types (record { code = c; bytes = bytes }) - 1) path ++ record { address = a; segment = record { code = c; bytes = bytes } } ∷ []) x

    of-root : Goal 1
    of-root fits may twin =
        subst (λ (n : ℕ). IsRowLoaded d v rows (record { code = 1; bytes = bytes }) (take (n - 1) path ++ record { address = a; segment = record { code = 1; bytes = bytes } } ∷ []) x)
        (sym (root-level d.block_size d.frspc d.types bytes L.holds.volume.fit fits)) (own may twin)

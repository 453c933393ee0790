-- Room and memory for the rows that one call puts in.
use Rattle.std.proofs.Common.{◌≡◌, ◌≢◌, ℕ, ◌+◌, ◌-◌, ◌<◌, ◌≤◌, List, ◌∷◌, length, sym, ap, subst, ◌∙◌, arith, inl, inr}
use Rattle.std.specs.Prelude.{map}
use Rattle.std.proofs.lemmas.Bool.{cases_eq}
use Rattle.std.proofs.lemmas.List.Sums.{sum_by-cons}
use Rattle.hd_dbd.specs.Types.{SegmentType}
use Rattle.hd_dbd.specs.Hierarchy.{Database}
use Rattle.hd_dbd.specs.Segment.{Segment}
use Rattle.hd_dbd.specs.Prefixes.{size_with}
use Rattle.hd_dbd.specs.Forest.{Forest}
use Rattle.hd_calls.specs.Runs.{stored_sizes}
use Rattle.hd_volume.specs.Headers.{Header, header_of}
use Rattle.hd_volume.specs.Volumes.{VolumeState, IsKind}
use Rattle.hd_volume.specs.Rooms.{spare, HasHole}
use Rattle.hd_volume.specs.Entries.{Entry}
use Rattle.hd_volume.specs.Indexes.{root_key_length}
use Rattle.hd_index_blocks.specs.Needs.{entry_growth, IsHighest}
use Rattle.hd_index_blocks.proofs.Versions.{set-of}
use Rattle.hd_index_blocks.proofs.StayingSets.{indexes-stay}
use Rattle.hd_volume.proofs.JoinLemmas.{AreOne, one-spare, one-holes}
use Rattle.hd_links.specs.Placed.{Placed}
use Rattle.hd_image.specs.Holding.{HoldsPlaced}
use Rattle.hd_image.proofs.OneImage.{held-same}
use Rattle.hd_forest.specs.Updates.{IsLinked}
use Rattle.hd_index.specs.Changes.{IsLater}
use Rattle.hd_index.proofs.NeedLemmas.{needed-same, needed-stays}
use Rattle.hd_index.proofs.ChangeLemmas.{later-same, version-kept}
use Rattle.hd_changes.specs.Entered.{IsEntered}
use Rattle.hd_changes.specs.Rooms.{HasRoomFor, HasMemoryFor, FirstRowsFindRoom, RoomLasts, blocks_for_entry, HasRootRoomFor, HasRootMemoryFor, FirstRootsFindRoom, RootEntriesFindRoom, RootRoomLasts, SetRowsLeaveRoom, SameEntriesLeaveRoom, HaveOneImage, OneImageIsOneVolume}

-- what rows take is what the first takes, and the rest
pub sizes-more : (types : List SegmentType) (row : Segment) (rest : List Segment) → stored_sizes types (row ∷ rest) ≡ size_with types row.code (length row.bytes) + stored_sizes types rest
sizes-more types row rest = sum_by-cons (λ (x : ℕ). x) (size_with types row.code (length row.bytes)) (map (λ (r : Segment). size_with types r.code (length r.bytes)) rest)

-- where there is a hole, there is one as large as less
smaller : (v : VolumeState) (n k : ℕ) → HasHole v n → k ≤ n → HasHole v k
smaller v n k H less = record { block = H.block; is_data = H.is_data; large = (let big : n ≤ _ = H.large in omega arith) }

-- a hole as large as all rows is one for the first
hole-first : (types : List SegmentType) (v : VolumeState) (row : Segment) (rest : List Segment) → HasHole v (stored_sizes types (row ∷ rest)) → HasHole v (size_with types row.code (length row.bytes))
hole-first types v row rest hole =
    (let both : stored_sizes types (row ∷ rest) ≡ size_with types row.code (length row.bytes) + stored_sizes types rest = sizes-more types row rest in
    smaller v (stored_sizes types (row ∷ rest)) (size_with types row.code (length row.bytes)) hole (omega arith))

-- and once that has its bytes in a hole, for the others
hole-rest : (types : List SegmentType) (v w : VolumeState) (row : Segment) (rest : List Segment) → ((n : ℕ) → IsKind v 1 n → IsKind w 1 n)
    → ((n : ℕ) → size_with types row.code (length row.bytes) < n → HasHole v n → HasHole w (n - size_with types row.code (length row.bytes)))
    → HasHole v (stored_sizes types (row ∷ rest)) → HasHole w (stored_sizes types rest)
hole-rest types v w row rest data_blocks holes hole =
    let own : ℕ = size_with types row.code (length row.bytes) in
    let more : ℕ = stored_sizes types rest in
    let both : stored_sizes types (row ∷ rest) ≡ own + more = sizes-more types row rest in
    elim (cases_eq more 0) [
      | inl none ↦ record { block = hole.block; is_data = data_blocks hole.block hole.is_data; large = omega arith }
      | inr some ↦
          (let left : HasHole w (own + more - own) = holes (own + more) (omega arith) (smaller v (stored_sizes types (row ∷ rest)) (own + more) hole (omega arith)) in
          smaller w (own + more - own) more left (omega arith))
    ]

-- so it is where that is linked
hole-left : (d : Database) (v w : VolumeState) (h y a : ℕ) (row : Segment) (rest : List Segment) → IsLinked d v h y row a w
    → HasHole v (stored_sizes d.types (row ∷ rest)) → HasHole w (stored_sizes d.types rest)
hole-left d v w h y a row rest I = hole-rest d.types v w row rest I.rest.data_blocks I.holes

-- ---- rows of which none is a root

pub first-rows : FirstRowsFindRoom
first-rows types v row rest = (
  λ room none. elim room [
    | inl enough ↦ (let no_spare : spare v ≡ 0 = none.0 in omega arith)
    | inr hole ↦ none.1 (hole-first types v row rest hole)
  ],
  λ memory none. elim memory [
    | inl enough ↦ (let no_room : v.room ≡ 0 = none.0 in omega arith)
    | inr hole ↦ none.1 (hole-first types v row rest hole)
  ],
)

pub room-lasts : RoomLasts
room-lasts d v w h y a row rest I = (
  λ room. elim room [
    | inl enough ↦ inl (let less : spare v ≤ spare w + 1 = I.spares in omega arith)
    | inr hole ↦ inr (hole-left d v w h y a row rest I hole)
  ],
  λ kept memory. elim memory [
    | inl enough ↦ inl (omega arith)
    | inr hole ↦ inr (hole-left d v w h y a row rest I hole)
  ],
)

-- ---- a root, and rows below it

pub first-roots : FirstRootsFindRoom
first-roots d v key row rest = (
  λ room none. elim room.1 [
    | inl enough ↦ (let no_spare : spare v ≡ 0 = none.0 in omega arith)
    | inr hole ↦ none.1 (hole-first d.types v row rest hole.0)
  ],
  λ memory none. (let no_room : v.room ≡ 0 = none.0 in omega arith),
)

-- a link leaves what the index may need
pub growth-kept : (d : Database) (v w : VolumeState) (f : Forest Placed) (h y a : ℕ) (row : Segment) → HoldsPlaced d v f → IsLinked d v h y row a w → entry_growth w ≡ entry_growth v
growth-kept d v w f h y a row H I =
    (indexes-stay (root_key_length d.types) v w H.index I.volume.formatted (I.volume.size ∙ sym H.volume.size) I.rest.header I.rest.index I.rest.others).2

-- and what it needs for a key
pub needed-kept : (d : Database) (v w : VolumeState) (f : Forest Placed) (h y a : ℕ) (row : Segment) (key : List ℕ) → HoldsPlaced d v f → IsLater v → IsLinked d v h y row a w
    → blocks_for_entry d w key ≡ blocks_for_entry d v key
needed-kept d v w f h y a row key H later I =
    needed-stays (root_key_length d.types) v w key (set-of (root_key_length d.types) v H.index later) I.volume.formatted (I.volume.size ∙ sym H.volume.size) I.rest.header I.rest.index I.rest.others

module _ (d : Database) (v w : VolumeState) (f : Forest Placed) (key : List ℕ) (y a : ℕ) (row : Segment) (rest : List Segment) (H : HoldsPlaced d v f) (I : IsLinked d v 0 y row a w) where
  -- a link leaves the height
  highest-kept : IsHighest w → IsHighest v
  highest-kept high =
      let version : (header_of w.image).version ≡ (header_of v.image).version = ap (λ (z : Header). z.version) I.rest.header in
      let height : (header_of w.image).height ≡ (header_of v.image).height = ap (λ (z : Header). z.height) I.rest.header in
      (λ one. high.0 (version ∙ one), sym height ∙ high.1)

  entry-blocks : IsLater v → HasRootRoomFor d v key (row ∷ rest) → blocks_for_entry d w key ≤ spare w
  entry-blocks later (low, inl enough) =
      (let less : spare v ≤ spare w + 1 = I.spares in
      omega (arith, less, enough, needed-kept d v w f 0 y a row key H later I))
  entry-blocks later (low, inr hole) =
      (let enough : blocks_for_entry d v key ≤ spare v = hole.1 in
      let needed : blocks_for_entry d w key ≡ blocks_for_entry d v key = needed-kept d v w f 0 y a row key H later I in
      elim hole.2 [
        | inl plain ↦ (let same : spare w ≡ spare v = I.in_hole plain (hole-first d.types v row rest hole.0) in omega (arith, same, enough, needed))
        | inr none ↦ omega (arith, none, needed)
      ])

  entry-room : IsLater v → HasRootRoomFor d v key (row ∷ rest) → (IsHighest w → ⊥) × (blocks_for_entry d w key ≤ spare w)
  entry-room later room = (λ high. room.0 (highest-kept high), entry-blocks later room)

  entry-memory : v.room ≤ w.room + 1 → HasRootMemoryFor v (row ∷ rest) → entry_growth w ≤ w.room
  entry-memory kept enough = omega (arith, kept, enough, growth-kept d v w f 0 y a row H I)

  module _ (x : VolumeState) (es : List Entry) (more : ℕ) (E : IsEntered d w es more x) where
    -- the volume has an index set, now as before
    later : IsLater v
    later = later-same x v (sym (version-kept w x more E.change ∙ ap (λ (z : Header). z.version) I.rest.header)) E.index.index.version

    rest-room : spare w ≤ spare x + blocks_for_entry d w key → HasRootRoomFor d v key (row ∷ rest) → HasRoomFor d.types x rest
    rest-room spares (low, inl enough) = inl (let less : spare v ≤ spare w + 1 = I.spares in omega (arith, spares, enough, less, needed-kept d v w f 0 y a row key H later I))
    rest-room spares (low, inr hole) = inr (E.change.holes (stored_sizes d.types rest) (hole-left d v w 0 y a row rest I hole.0))

    rest-memory : v.room ≤ w.room + 1 → w.room ≤ x.room + entry_growth w → HasRootMemoryFor v (row ∷ rest) → HasMemoryFor d.types x rest
    rest-memory kept left enough = inl (omega (arith, kept, left, enough, growth-kept d v w f 0 y a row H I))

pub entries-room : RootEntriesFindRoom
entries-room d v w f key y a row rest H later I = (entry-room d v w f key y a row rest H I later, entry-memory d v w f key y a row rest H I)

pub root-room-lasts : RootRoomLasts
root-room-lasts d v w x f es more key y a row rest H I E = (rest-room d v w f key y a row rest H I x es more E, rest-memory d v w f key y a row rest H I x es more E)

-- ---- rows that get other bytes

pub set-rows-leave-room : SetRowsLeaveRoom
set-rows-leave-room d v w path row to rest I = (
  λ room. elim room [
    | inl enough ↦ inl (let less : spare v ≤ spare w + 1 = I.room.spares in omega arith)
    | inr hole ↦ inr (hole-rest d.types v w row rest I.room.rest.data_blocks I.room.holes hole)
  ],
  λ kept memory. elim memory [
    | inl enough ↦ inl (omega arith)
    | inr hole ↦ inr (hole-rest d.types v w row rest I.room.rest.data_blocks I.room.holes hole)
  ],
  λ stays room. elim room [
    | inl enough ↦ inl (let same : spare w ≡ spare v = (I.room.in_place stays).0 in omega arith)
    | inr hole ↦ inr ((I.room.in_place stays).1 (stored_sizes d.types rest) hole)
  ],
  λ stays kept memory. elim memory [
    | inl enough ↦ inl (omega arith)
    | inr hole ↦ inr ((I.room.in_place stays).1 (stored_sizes d.types rest) hole)
  ],
)

pub same-entries-leave-room : SameEntriesLeaveRoom
same-entries-leave-room d v w es rows E spares room = (
  λ enough. elim enough [
    | inl blocks ↦ inl (omega arith)
    | inr hole ↦ inr (E.change.holes (stored_sizes d.types rows) hole)
  ],
  λ enough. elim enough [
    | inl blocks ↦ inl (omega arith)
    | inr hole ↦ inr (E.change.holes (stored_sizes d.types rows) hole)
  ],
)

-- ---- a call that only looks

module _ (d : Database) (v w : VolumeState) (S : HaveOneImage v w) where
  one : AreOne v w
  one = record { same = record { size = S.size; sizes = S.sizes }; image = S.image }

  room-same : (rows : List Segment) → HasRoomFor d.types v rows → HasRoomFor d.types w rows
  room-same rows (inl enough) = inl (omega (arith, enough, one-spare one))
  room-same rows (inr hole) = inr (one-holes one (stored_sizes d.types rows) hole)

  highest-same : IsHighest w → IsHighest v
  highest-same high = subst (λ (image : List ℕ). ((header_of image).version ≢ 1) × ((header_of image).height ≡ 64)) S.image high

  root-room-same : (key : List ℕ) (rows : List Segment) → HasRootRoomFor d v key rows → HasRootRoomFor d w key rows
  root-room-same key rows (low, inl enough) = (
    λ high. low (highest-same high),
    inl (omega (arith, enough, one-spare one, needed-same (root_key_length d.types) v w key S.size S.image)),
  )
  root-room-same key rows (low, inr hole) = (
    λ high. low (highest-same high),
    inr (
      one-holes one (stored_sizes d.types rows) hole.0,
      (let enough : blocks_for_entry d v key ≤ spare v = hole.1 in
          let needed : blocks_for_entry d w key ≡ blocks_for_entry d v key = needed-same (root_key_length d.types) v w key S.size S.image in
          omega (arith, enough, needed, one-spare one)),
      elim hole.2 [ inl plain ↦ inl (S.plain plain) | inr none ↦ inr (needed-same (root_key_length d.types) v w key S.size S.image ∙ none) ],
    ),
  )

pub one-volume : OneImageIsOneVolume
one-volume d v w S = (held-same d v w S.image S.size S.sizes, room-same d v w S, root-room-same d v w S)

-- Room and memory for rows that get new bytes, one after the other.
use Rattle.std.proofs.Common.{◌≡◌, ◌≢◌, ◌⊎◌, ℕ, ◌+◌, ◌<◌, ◌≤◌, List, ◌∷◌, length, Bool, true, false, cond, sym, ap, ap₂, subst, ◌∙◌, arith, inl, inr}
use Rattle.std.specs.Prelude.{◌-◌, map, filter, nat_lt, drop}
use Rattle.std.proofs.lemmas.Bool.{cases_Bool, ltb-false, lt-ltb, le-ltb}
use Rattle.std.proofs.lemmas.List.{length-take, length-drop}
use Rattle.hd_dbd.specs.Types.{SegmentType}
use Rattle.hd_dbd.specs.Forest.{Forest}
use Rattle.hd_dbd.specs.Hierarchy.{Database}
use Rattle.hd_dbd.specs.Segment.{Segment}
use Rattle.hd_dbd.specs.Paths.{row_at}
use Rattle.hd_dbd.specs.Prefixes.{size_with}
use Rattle.hd_dbd.specs.declared.answer.Refused.{Refused}
use Rattle.hd_dbd.specs.declared.answer.Refused.TheVariants.{Memory, Full, Device}
use Rattle.hd_calls.specs.Moves.{Rewrite, rewritten}
use Rattle.hd_calls.specs.Runs.{is_longer, row_with, rows_stored, stored_sizes}
use Rattle.hd_volume.specs.Volumes.{VolumeState}
use Rattle.hd_volume.specs.Rooms.{spare, HasHole}
use Rattle.hd_links.specs.Placed.{Placed}
use Rattle.hd_links.specs.Steps.{rows_of}
use Rattle.hd_image.specs.Records.{links_of}
use Rattle.hd_forest.specs.Walks.{tip}
use Rattle.hd_forest.specs.Replacing.{Outgrows}
use Rattle.hd_changes.specs.Rooms.{HasRoomFor, HasMemoryFor}
use Rattle.hd_changes.proofs.Rooms.{sizes-more, first-rows, set-rows-leave-room, same-entries-leave-room}
use Rattle.hd_changes.proofs.SetRows.{no-more-room}
use Rattle.hd_update.specs.Replacing.{part_for, IsRewriteOf, IsReplacedTo}
use Rattle.hd_update.specs.declared.rewrites.NewBytes.{NewBytes}

-- ---- one row

module _ (d : Database) (x : VolumeState) (path : List ℕ) (row : Segment) (to : ℕ) (y : VolumeState) (I : IsReplacedTo d x path row to y) where
  same_room : y.room ≡ I.between.room
  same_room = elim I.entered [ inl keeps ↦ ap (λ (z : VolumeState). z.room) keeps.1 | inr E ↦ E.room ]

  module _ (rest : List Segment) where
    room_after : HasRoomFor d.types I.between rest → HasRoomFor d.types y rest
    room_after room = elim I.entered [
      | inl keeps ↦ subst (λ (z : VolumeState). HasRoomFor d.types z rest) (sym keeps.1) room
      | inr E ↦ (same-entries-leave-room d I.between y _ rest E.entered E.spares E.room).0 room
    ]

    memory_after : HasMemoryFor d.types I.between rest → HasMemoryFor d.types y rest
    memory_after memory = elim I.entered [
      | inl keeps ↦ subst (λ (z : VolumeState). HasMemoryFor d.types z rest) (sym keeps.1) memory
      | inr E ↦ (same-entries-leave-room d I.between y _ rest E.entered E.spares E.room).1 memory
    ]

    pub room_more : HasRoomFor d.types x (row ∷ rest) → HasRoomFor d.types y rest
    room_more room = room_after ((set-rows-leave-room d x I.between path row to rest I.set).0 room)

    pub memory_more : x.room ≤ y.room + 1 → HasMemoryFor d.types x (row ∷ rest) → HasMemoryFor d.types y rest
    memory_more kept memory = memory_after ((set-rows-leave-room d x I.between path row to rest I.set).1 (let same = same_room in omega arith) memory)

    pub room_same : to ≡ tip path → HasRoomFor d.types x rest → HasRoomFor d.types y rest
    room_same still room = room_after ((set-rows-leave-room d x I.between path row to rest I.set).2 still room)

    pub memory_same : to ≡ tip path → x.room ≤ y.room → HasMemoryFor d.types x rest → HasMemoryFor d.types y rest
    memory_same still kept memory = memory_after ((set-rows-leave-room d x I.between path row to rest I.set).3 still (let same = same_room in omega arith) memory)

-- ---- the first of more

-- a row that is made longer is one that is stored
pub stored_more : (rows : List Segment) (w : Rewrite) (ws : List Rewrite) → is_longer rows w ≡ true → rows_stored rows (rewritten (w ∷ ws)) ≡ row_with rows w ∷ rows_stored rows (rewritten ws)
stored_more rows w ws long = ap (λ (b : Bool). map (λ z. row_with rows z) (cond b (w ∷ filter (λ z. is_longer rows z) ws) (filter (λ z. is_longer rows z) ws))) long

-- another is none
pub stored_same : (rows : List Segment) (w : Rewrite) (ws : List Rewrite) → is_longer rows w ≡ false → rows_stored rows (rewritten (w ∷ ws)) ≡ rows_stored rows (rewritten ws)
stored_same rows w ws short = ap (λ (b : Bool). map (λ z. row_with rows z) (cond b (w ∷ filter (λ z. is_longer rows z) ws) (filter (λ z. is_longer rows z) ws))) short

-- What the first row adds, where it is made longer.
pub record IsStored (types : List SegmentType) (n : NewBytes) (area : List ℕ) (rows : List Segment) (w : Rewrite) (ws : List Rewrite) : Type 0 where
  pub many : length (rows_stored rows (rewritten (w ∷ ws))) ≡ 1 + length (rows_stored rows (rewritten ws))
  pub large : stored_sizes types (rows_stored rows (rewritten (w ∷ ws))) ≡ size_with types n.code (length (part_for area n)) + stored_sizes types (rows_stored rows (rewritten ws))

module _ (types : List SegmentType) (f : Forest Placed) (area : List ℕ) (n : NewBytes) (w : Rewrite) (ws : List Rewrite) (of : IsRewriteOf types f area n w) where
  -- new bytes are as many as they say
  as_many_new : length w.bytes ≡ n.length
  as_many_new =
      ap (λ (b : List ℕ). length b) (sym of.bytes) ∙ length-take n.length (drop n.start area)
      ∙ (let rest : length (drop n.start area) ≡ length area - n.start = length-drop n.start area in let within : n.start + n.length ≤ length area = of.within in omega arith)

  longer_is : is_longer (rows_of f) w ≡ nat_lt n.had n.length
  longer_is = ap₂ nat_lt (sym of.had) as_many_new

  pub asked_long : n.had < n.length → IsStored types n area (rows_of f) w ws
  asked_long more =
      let is = stored_more (rows_of f) w ws (longer_is ∙ lt-ltb n.had n.length more) in
      record {
        many = (let more = ap (λ (rs : List Segment). length rs) is in omega arith);
        large = ap (stored_sizes types) is ∙ sizes-more types (row_with (rows_of f) w) (rows_stored (rows_of f) (rewritten ws))
            ∙ ap₂ (λ (c : ℕ) (b : List ℕ). size_with types c (length b) + stored_sizes types (rows_stored (rows_of f) (rewritten ws))) (sym of.code) (sym of.bytes);
      }

  pub asked_short : n.length ≤ n.had → rows_stored (rows_of f) (rewritten (w ∷ ws)) ≡ rows_stored (rows_of f) (rewritten ws)
  asked_short less = stored_same (rows_of f) w ws (longer_is ∙ le-ltb n.had n.length less)

module _ (d : Database) (x : VolumeState) (path : List ℕ) (rows : List Segment) (w : Rewrite) (rest : List Rewrite) (row : Segment) (row_is : row ≡ row_with rows w)
    (code : (links_of d.types x).code (tip path) ≡ row.code) (many : length ((links_of d.types x).bytes (tip path)) ≡ length (row_at rows w.number).bytes)
    (room : HasRoomFor d.types x (rows_stored rows (rewritten (w ∷ rest)))) (memory : HasMemoryFor d.types x (rows_stored rows (rewritten (w ∷ rest)))) where
  -- a row that is not made longer needs no more room than its place has
  short_fits : is_longer rows w ≡ false → size_with d.types row.code (length row.bytes) ≤ size_with d.types ((links_of d.types x).code (tip path)) (length ((links_of d.types x).bytes (tip path)))
  short_fits short =
      let few : length w.bytes ≤ length (row_at rows w.number).bytes = ltb-false (length (row_at rows w.number).bytes) (length w.bytes) short in
      let own : length row.bytes ≡ length w.bytes = ap (λ (r : Segment). length r.bytes) row_is in
      subst (λ (c : ℕ). size_with d.types row.code (length row.bytes) ≤ size_with d.types c (length ((links_of d.types x).bytes (tip path)))) (sym code)
      (no-more-room d.types row.code (length row.bytes) (length ((links_of d.types x).bytes (tip path))) (omega arith))

  long_room : is_longer rows w ≡ true → HasRoomFor d.types x (row ∷ rows_stored rows (rewritten rest))
  long_room long = subst (HasRoomFor d.types x) (stored_more rows w rest long ∙ ap (λ (r : Segment). r ∷ rows_stored rows (rewritten rest)) (sym row_is)) room

  long_memory : is_longer rows w ≡ true → HasMemoryFor d.types x (row ∷ rows_stored rows (rewritten rest))
  long_memory long = subst (HasMemoryFor d.types x) (stored_more rows w rest long ∙ ap (λ (r : Segment). r ∷ rows_stored rows (rewritten rest)) (sym row_is)) memory

  -- it is refused by a failed access alone
  pub replace_refused : (e : Refused) → (e ≡ Memory) ⊎ (e ≡ Full) ⊎ (e ≡ Device) → (e ≡ Full → (spare x ≡ 0) × (HasHole x (size_with d.types row.code (length row.bytes)) → ⊥)) → (e ≡ Memory → x.room ≡ 0)
      → (e ≡ Memory → HasHole x (size_with d.types row.code (length row.bytes)) → ⊥) → (e ≢ Device → Outgrows d x (tip path) row) → e ≡ Device
  replace_refused e why full few hole outgrown = elim (cases_Bool (is_longer rows w)) [
    | inl long ↦ elim why [
      | inl is ↦ absurd ((first-rows d.types x row (rows_stored rows (rewritten rest))).1 (long_memory long) (few is, hole is))
      | inr (inl is) ↦ absurd ((first-rows d.types x row (rows_stored rows (rewritten rest))).0 (long_room long) (full is))
      | inr (inr is) ↦ is
    ]
    | inr short ↦ elim why [
      | inl is ↦ absurd (let fits = short_fits short in let more : Outgrows d x (tip path) row = outgrown (λ (f : e ≡ Device). (let both : Memory ≡ Device = sym is ∙ f in cc)) in omega arith)
      | inr (inl is) ↦ absurd (let fits = short_fits short in let more : Outgrows d x (tip path) row = outgrown (λ (f : e ≡ Device). (let both : Full ≡ Device = sym is ∙ f in cc)) in omega arith)
      | inr (inr is) ↦ is
    ]
  ]

  module _ (to : ℕ) (y : VolumeState) (I : IsReplacedTo d x path row to y) where
    -- for the others there is room then
    pub room_left : HasRoomFor d.types y (rows_stored rows (rewritten rest))
    room_left = elim (cases_Bool (is_longer rows w)) [
      | inl long ↦ room_more d x path row to y I (rows_stored rows (rewritten rest)) (long_room long)
      | inr short ↦ room_same d x path row to y I (rows_stored rows (rewritten rest)) (I.set.room.stays (short_fits short)) (subst (HasRoomFor d.types x) (stored_same rows w rest short) room)
    ]

    -- and memory
    pub memory_left : x.room ≤ y.room + 1 → (to ≡ tip path → x.room ≤ y.room) → HasMemoryFor d.types y (rows_stored rows (rewritten rest))
    memory_left kept still = elim (cases_Bool (is_longer rows w)) [
      | inl long ↦ memory_more d x path row to y I (rows_stored rows (rewritten rest)) kept (long_memory long)
      | inr short ↦ memory_same d x path row to y I (rows_stored rows (rewritten rest)) (I.set.room.stays (short_fits short)) (still (I.set.room.stays (short_fits short)))
          (subst (HasMemoryFor d.types x) (stored_same rows w rest short) memory)
    ]

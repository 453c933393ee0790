-- How the records of a volume's rows are written one after another.
use Rattle.std.proofs.Common.{◌≡◌, ℕ, suc, ◌+◌, ◌<◌, ◌≤◌, List, [], ◌∷◌, ◌++◌, length, take, drop, get_or, Option, Some, None, Err, refl, sym, ap, subst, ◌∙◌, arith, inl, inr}
use Rattle.std.specs.Io.KnownBytes.{Appends}
use Rattle.std.specs.Option.{option_map_or}
use Rattle.std.proofs.KnownBytes.{Appends-nil, Appends-trans}
use Rattle.std.proofs.lemmas.Bool.{cases_lt}
use Rattle.std.proofs.lemmas.List.{append_assoc, get_or-drop, take_all, take_more}
use Rattle.hd_dbd.specs.Types.{SegmentType}
use Rattle.hd_dbd.specs.Hierarchy.{Database, type_of}
use Rattle.hd_dbd.specs.Lengths.{said_length, own_length}
use Rattle.hd_dbd.specs.Prefixes.{prefix_length}
use Rattle.hd_dbd.specs.Segment.{Segment}
use Rattle.hd_dbd.specs.Forest.{Forest}
use Rattle.hd_dbd.specs.Paths.{row_at, no_row}
use Rattle.hd_dbd.proofs.TypeLengths.{type-room}
use Rattle.hd_prefix.specs.Fields.{length_of}
use Rattle.hd_volume.specs.Volumes.{VolumeState}
use Rattle.hd_volume.specs.Calls.{IsRead}
use Rattle.hd_volume.proofs.CallSteps.{read-err}
use Rattle.hd_links.specs.Links.{Links, IsSegment, segment_at}
use Rattle.hd_links.specs.Placed.{Placed}
use Rattle.hd_links.specs.Steps.{rows_of}
use Rattle.hd_image.specs.Laws.{IsDatabase}
use Rattle.hd_image.specs.Records.{links_of, IsVolumeOf}
use Rattle.hd_image.specs.Holding.{HoldsPlaced}
use Rattle.hd_forest.specs.Walks.{tip, next_on, walked, AreSegments, HasForest}
use Rattle.hd_forest.proofs.Climbs.{tip-some, next-segments}
use Rattle.hd_forest.proofs.Held.{held}
use Rattle.hd_forest.proofs.Walking.{walking, walked-there}
use Rattle.hd_unload.specs.Streams.{head_bytes, record_bytes, records_bytes, end_bytes, unload_bytes}
use Rattle.hd_unload.specs.declared.fault.StreamFault.{StreamFault}
use Rattle.hd_unload.specs.declared.fault.StreamFault.TheVariants as stream
use Rattle.hd_unload.specs.Unloads.{stream_call}
use Rattle.hd_unload.proofs.Reading.{nothing-behind}
use Rattle.hd_unload.proofs.HeldStreams.{held-few}

-- a write that was refused is a refusal of any write
pub stream-err : {A B : Type 0} {u v : VolumeState} (e : StreamFault) → IsRead {T = A} u (stream_call (Err e)) v → IsRead {T = B} u (stream_call (Err e)) v
stream-err stream.Device h = read-err h
stream-err stream.Write h = read-err h

-- a stored segment has no more bytes of its own than a record can say
pub own-short : (d : Database) (c : ℕ) (s : List ℕ) → IsDatabase d → ((i : ℕ) → get_or s i 0 < 256) → length_of d.types c s < 65536
own-short d c s formed all = by-type (type_of d.types c) refl
  where
    behind : List ℕ
    behind = drop (prefix_length d.types c) s

    byte : (i : ℕ) → get_or behind i 0 < 256
    byte i = subst (λ (n : ℕ). n < 256) (sym (get_or-drop (prefix_length d.types c) s i 0)) (all (prefix_length d.types c + i))

    by-least : (t : SegmentType) (o : Option ℕ) → type_of d.types c ≡ Some t → t.least ≡ o → own_length t behind < 65536
    by-least t None typed is =
        let own : own_length t behind ≡ t.length = ap (λ (o : Option ℕ). option_map_or (λ _. said_length behind) o t.length) is in
        omega (arith, own, type-room d.block_size d.frspc d.types c t formed typed)
    by-least t (Some least) typed is =
        let own : own_length t behind ≡ said_length behind = ap (λ (o : Option ℕ). option_map_or (λ _. said_length behind) o t.length) is in
        omega (arith, own, byte 0, byte 1)

    by-type : (o : Option SegmentType) → type_of d.types c ≡ o → length_of d.types c s < 65536
    by-type None is = (let none : length_of d.types c s ≡ 0 = ap (λ (o : Option SegmentType). option_map_or (λ t. own_length t behind) o 0) is in omega arith)
    by-type (Some t) is =
        subst (λ (n : ℕ). n < 65536) (sym (ap (λ (o : Option SegmentType). option_map_or (λ u. own_length u behind) o 0) is)) (by-least t t.least is refl)

-- the last address of a path of segments is one of a segment
pub tip-there : (m : Links) (path : List ℕ) → AreSegments m path → 0 < tip path → IsSegment m (tip path)
tip-there m [] s l = absurd (omega arith)
tip-there m (a ∷ path) s l = tip-some m 0 (a ∷ path) s (omega arith)

-- the step to the next row leads to a path of segments
pub next-there : (d : Database) (v : VolumeState) (path new : List ℕ) → IsVolumeOf d v → HasForest d v → AreSegments (links_of d.types v) path → new ≡ next_on d.types (links_of d.types v) path
    → AreSegments (links_of d.types v) new
next-there d v path new of holds there is =
    let m : Links = links_of d.types v in
    subst (AreSegments m) (sym is) (next-segments d.types m (held d v of.fit of holds).linked.typed refl path there)

-- the records of rows with one more
records-one : (rows : List Segment) (new : Segment) → records_bytes (rows ++ new ∷ []) ≡ records_bytes rows ++ record_bytes new
records-one [] new = nothing-behind (record_bytes new)
records-one (r ∷ rows) new = ap (λ (xs : List ℕ). record_bytes r ++ xs) (records-one rows new) ∙ sym (append_assoc (record_bytes r) (records_bytes rows) (record_bytes new))

-- The records of so many rows of a placed forest were written, and the walk stands on the row of that number.
pub record IsWrittenTo (d : Database) (v : VolumeState) (f : Forest Placed) (count : ℕ) (path : List ℕ) (before after : Option (List ℕ)) : Type 0 where
  pub few : count ≤ length (rows_of f)
  pub stands : path ≡ walked d.types (links_of d.types v) count
  pub stream : Appends before after (records_bytes (take count (rows_of f)))

-- nothing is written at first
pub written-none : (d : Database) (v : VolumeState) (f : Forest Placed) (path : List ℕ) (out : Option (List ℕ)) → path ≡ next_on d.types (links_of d.types v) [] → IsWrittenTo d v f 0 path out out
written-none d v f path out is = record { few = omega arith; stands = is; stream = Appends-nil out }

module _ (d : Database) (v : VolumeState) (f : Forest Placed) (h : HoldsPlaced d v f) (count : ℕ) (path : List ℕ) (before mid : Option (List ℕ)) (w : IsWrittenTo d v f count path before mid) where
  abbrev m : Links
  m = links_of d.types v

  -- behind the last row the walk stands nowhere
  nowhere-behind : length (rows_of f) ≤ count → tip (walked d.types m count) ≡ 0
  nowhere-behind l =
      let few = w.few in
      let at : count ≡ length (rows_of f) = omega arith in
      ap (λ (n : ℕ). tip (walked d.types m n)) at ∙ ap tip (walking d v f h.volume.fit h.volume h.records).1

  -- where the record of the row that the walk stands on is written, and the walk goes on, that is one row more
  pub written-more : (new : List ℕ) (after : Option (List ℕ)) → 0 < tip path → Appends mid after (record_bytes (segment_at m (tip path))) → new ≡ next_on d.types m path → IsWrittenTo d v f (count + 1) new before after
  written-more new after some record-is next =
      let here : count < length (rows_of f) = elim (cases_lt count (length (rows_of f))) [
        | inl l ↦ l
        | inr o ↦ absurd (let none : tip path ≡ 0 = ap tip w.stands ∙ nowhere-behind o in omega arith)
      ] in
      let more : suc count ≡ count + 1 = omega arith in
      let row : segment_at m (tip path) ≡ row_at (rows_of f) count = ap (λ (p : List ℕ). segment_at m (tip p)) w.stands ∙ ((walking d v f h.volume.fit h.volume h.records).0 count here).1 in
      record {
        few = omega arith;
        stands = next ∙ ap (next_on d.types m) w.stands ∙ ap (walked d.types m) more;
        stream = subst (Appends before after)
            (sym (ap records_bytes (take_more (rows_of f) count no_row here) ∙ records-one (take count (rows_of f)) (row_at (rows_of f) count)))
            (Appends-trans before mid after (records_bytes (take count (rows_of f))) (record_bytes (row_at (rows_of f) count)) w.stream
            (subst (λ (r : Segment). Appends mid after (record_bytes r)) row record-is));
      }

  -- where the walk stands on no row all are written
  pub written-ended : tip path ≡ 0 → (count ≡ length (rows_of f)) × Appends before mid (records_bytes (rows_of f))
  written-ended none =
      let few = w.few in
      let all : count ≡ length (rows_of f) = elim (cases_lt count (length (rows_of f))) [
        | inl l ↦ absurd
            (let some = (walked-there d v f h.volume.fit h.volume h.records count l).some in
            let nowhere : tip (walked d.types m count) ≡ 0 = ap tip (sym w.stands) ∙ none in
            omega arith)
        | inr o ↦ omega arith
      ] in (all, subst (λ (rows : List Segment). Appends before mid (records_bytes rows)) (take_all count (rows_of f) (omega arith)) w.stream)

  -- so many rows are fewer than the bytes of the image, and than 2 to the 32
  pub written-few : (count < length v.image) × (count < 4294967295)
  written-few = (let few = w.few in let rows = held-few d v f h in let image = rows.0 in let numbers = rows.1 in (omega arith, omega arith))

-- header, records and end are the stream
pub stream-whole : (d : Database) (rows : List Segment) (count : ℕ) (head : List ℕ) (before a b after : Option (List ℕ)) → head ≡ head_bytes d → count ≡ length rows → Appends before a head
    → Appends a b (records_bytes rows) → Appends b after (end_bytes count) → Appends before after (unload_bytes d rows)
stream-whole d rows count head before a b after is counted first middle last =
    Appends-trans before b after (head_bytes d ++ records_bytes rows) (end_bytes (length rows))
    (Appends-trans before a b (head_bytes d) (records_bytes rows) (subst (Appends before a) is first) middle)
    (subst (λ (n : ℕ). Appends b after (end_bytes n)) counted last)

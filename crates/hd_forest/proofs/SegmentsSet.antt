-- A segment that is given other bytes.
use Rattle.std.proofs.Common.{◌≡◌, ℕ, ◌+◌, ◌-◌, ◌<◌, ◌≤◌, List, length, Bool, true, false, not, ◌&&◌, ◌||◌, ◌==◌, cond, refl, sym, ap, ap₂, subst, ◌∙◌, arith, IsTrue}
use Rattle.hd_dbd.specs.declared.hierarchy.FreeSpace.{FreeSpace}
use Rattle.hd_dbd.specs.declared.facts.SegmentSize.{SegmentSize}
use Rattle.hd_dbd.specs.Types.{SegmentType}
use Rattle.hd_dbd.specs.Hierarchy.{Database}
use Rattle.hd_dbd.specs.Segment.{Segment}
use Rattle.hd_dbd.specs.DatabaseRules.{well_formed}
use Rattle.hd_dbd.specs.Rows.{row_fits}
use Rattle.hd_dbd.specs.Facts.{stored_sizes}
use Rattle.hd_dbd.specs.Prefixes.{prefix_length, size_with}
use Rattle.hd_dbd.proofs.StoredSizes.{block_size-bounds}
use Rattle.hd_dbd.proofs.TypeLengths.{row-begins}
use Rattle.hd_bytes.proofs.BlockLemmas.{length-bytes_at}
use Rattle.hd_block.specs.Sizes.{size_at}
use Rattle.hd_volume.specs.Volumes.{VolumeState}
use Rattle.hd_volume.specs.Rooms.{HasHole}
use Rattle.hd_volume.specs.Calls.{HasSegment, IsRewritten}
use Rattle.hd_volume.specs.Steps.{IsShorter}
use Rattle.hd_volume.proofs.JoinLemmas.{AreOne, one-segments}
use Rattle.hd_prefix.specs.declared.pointer.Pointer.{Pointer}
use Rattle.hd_prefix.specs.declared.pointer.Pointer.TheVariants.{TwinForward, TwinBackward, FirstChild, LastChild}
use Rattle.hd_prefix.specs.Pointers.{place_of}
use Rattle.hd_prefix.specs.Fields.{code_of, length_of, bytes_of, pointer_of, new_segment, segment_with, IsSegmentWith}
use Rattle.hd_prefix.proofs.Fitting.{row_prefix}
use Rattle.hd_prefix.proofs.Places.{inside_some}
use Rattle.hd_prefix.proofs.Sizes.{size_long}
use Rattle.hd_prefix.proofs.NewSegments.{new_segment_is}
use Rattle.hd_prefix.proofs.OtherBytes.{segment_with_is}
use Rattle.hd_links.specs.Links.{Links, IsSegment}
use Rattle.hd_links.specs.Changes.{Agree}
use Rattle.hd_image.specs.Records.{stored_at, links_of, IsVolumeOf}
use Rattle.hd_image.specs.Laws.{IsDatabase}
use Rattle.hd_image.specs.Pointing.{with_record, without_record}
use Rattle.hd_image.proofs.SameRecords.{pointer_in, same-agree}
use Rattle.hd_image.proofs.Saying.{SaysOf, found-says}
use Rattle.hd_image.proofs.Puts.{not-here, rewriting-replaces}
use Rattle.hd_image.proofs.Found.{HasSegmentOf, segment-found, stored-found}
use Rattle.hd_image.proofs.RowSizes.{row-takes}
use Rattle.hd_forest.specs.Replacing.{room_of, Outgrows, IsRowSegment, set_at, IsSegmentSet}
use Rattle.hd_forest.proofs.Keeping.{rest-rewritten, count-rewritten}
use Rattle.hd_forest.proofs.Agreeing.{agree-trans}

-- ---- as it is laid out

module _ (block_size : ℕ) (frspc : FreeSpace) (types : List SegmentType) (fit : IsTrue (well_formed block_size frspc types)) (row : Segment) (fits : row_fits types row ≡ true) where
  -- a segment with other bytes
  pub laid-with : (segment room : List ℕ) → prefix_length types row.code ≤ length segment → room ≡ segment_with types row.code segment row.bytes
      → IsSegmentWith types row.code row.bytes segment room
  laid-with segment room long is =
      subst (IsSegmentWith types row.code row.bytes segment) (sym is)
      (segment_with_is types row.code row.bytes segment (row_prefix types row.code row.bytes fits) (λ behind same. row-begins block_size frspc types row.code row.bytes behind fit fits same)
      (λ pointer. inside_some block_size frspc types row.code pointer (place_of types row.code pointer) fit refl) long)

  -- a new one
  pub laid-new : (room : List ℕ) → room ≡ new_segment types row.code row.bytes → IsRowSegment types row room
  laid-new room is =
      let n = new_segment_is types row.code row.bytes (row_prefix types row.code row.bytes fits) (λ behind same. row-begins block_size frspc types row.code row.bytes behind fit fits same)
      (λ pointer. inside_some block_size frspc types row.code pointer (place_of types row.code pointer) fit refl) in
      subst (IsRowSegment types row) (sym is) (record { size = n.size; code = n.code; bytes = n.bytes })

  -- either is whole
  pub row-whole : (segment : List ℕ) (sizes : List SegmentSize) → IsRowSegment types row segment → sizes ≡ stored_sizes types
      → (0 < length segment) × (size_at sizes segment 0 ≡ length segment)
  row-whole segment sizes laid is = (
    some _ _ _ _ (row_prefix types row.code row.bytes fits) (size_long types row.code (length row.bytes)).0 laid.size,
    ap (λ (s : List SegmentSize). size_at s segment 0) is
        ∙ row-takes block_size frspc types row.code row.bytes segment fit fits laid.code laid.bytes ∙ sym laid.size,
  )
    where
      some : (p n s l : ℕ) → 2 ≤ p → p + n ≤ s → l ≡ s → 0 < l
      some p n s l e f g = omega arith

-- ---- as the records say it

-- what is said at b is what was said at a
pick : {X : Type 0} (k : Bool) (f : ℕ → X) (z : X) (a b : ℕ) → z ≡ f a → cond k z (f b) ≡ f (cond k a b)
pick true f z a b is = is
pick false f z a b is = refl

here-alike : (k x y : Bool) → (k || (not x && y)) ≡ (k || (y && not x))
here-alike true x y = refl
here-alike false true true = refl
here-alike false true false = refl
here-alike false false true = refl
here-alike false false false = refl

-- one record less, and one more with the other's fields, is that record with other bytes
set-agrees : (types : List SegmentType) (m : Links) (a to : ℕ) (bytes s t : List ℕ) → SaysOf types m a s → IsSegmentWith types (code_of s) bytes s t
    → Agree types (set_at m a to bytes) (with_record types (without_record m a) to t)
set-agrees types m a to bytes s t says set b =
    same-agree types (set_at m a to bytes) (with_record types (without_record m a) to t) b (record {
      here = here-alike (b == to) (b == a) (m.here b);
      code = pick (b == to) m.code (code_of t) a b (set.code ∙ sym says.code);
      bytes = ap (λ (x : List ℕ). cond (b == to) x (m.bytes b)) (ap (λ (c : ℕ). bytes_of types c t) set.code ∙ set.is);
      delete_byte = pick (b == to) m.delete_byte _ a b (set.delete_byte ∙ sym says.delete_byte);
      pointers = pointers;
    })
  where
    points : (pointer : Pointer) → pointer_of types (code_of t) pointer t ≡ pointer_in m a pointer
    points pointer = ap (λ (c : ℕ). pointer_of types c pointer t) set.code ∙ set.pointers pointer ∙ sym (says.pointers pointer)

    pointers : (pointer : Pointer) → pointer_in (with_record types (without_record m a) to t) b pointer ≡ pointer_in (set_at m a to bytes) b pointer
    pointers TwinForward = pick (b == to) m.forward _ a b (points TwinForward)
    pointers TwinBackward = pick (b == to) m.backward _ a b (points TwinBackward)
    pointers (FirstChild c) = pick (b == to) (λ x. m.first_child x c) _ a b (points (FirstChild c))
    pointers (LastChild c) = pick (b == to) (λ x. m.last_child x c) _ a b (points (LastChild c))

-- a segment is there
pub stands : (d : Database) (v : VolumeState) (a : ℕ) → IsDatabase d → IsVolumeOf d v → IsSegment (links_of d.types v) a → HasSegment v a 0
stands d v a fit of there = let h = segment-found d v a fit of there in record { bytes = h.bytes; is = h.is; long = omega arith }

-- it takes as many bytes as its own ask
pub takes-own : (d : Database) (v : VolumeState) (a : ℕ) (h : HasSegmentOf d v a) → length h.bytes ≡ size_with d.types ((links_of d.types v).code a) (length ((links_of d.types v).bytes a))
takes-own d v a h =
    h.size
    ∙ ap₂ (size_with d.types) (sym (ap code_of (stored-found d v a h)))
    (sym (ap (λ (x : List ℕ). length (bytes_of d.types (code_of x) x)) (stored-found d v a h)
    ∙ length-bytes_at h.bytes (prefix_length d.types (code_of h.bytes)) (length_of d.types (code_of h.bytes) h.bytes) h.whole))

-- a row outgrows the place of a segment that is shorter than what is laid out for it
pub row-longer : (d : Database) (u v : VolumeState) (a : ℕ) (row : Segment) (segment : List ℕ) → IsDatabase d → IsVolumeOf d u → AreOne u v → IsSegment (links_of d.types u) a
    → length segment ≡ room_of d.types row → IsShorter v a segment → Outgrows d u a row
row-longer d u v a row segment fit of one there size shorter =
    let h = segment-found d u a fit of there in
    let takes : length h.bytes ≡ size_with d.types ((links_of d.types u).code a) (length ((links_of d.types u).bytes a)) = takes-own d u a h in
    let less : length h.bytes < length segment = shorter h.bytes (one-segments one a ∙ h.is) in
    omega (arith, takes, less, size)

pub segment-set : (d : Database) (v w : VolumeState) (a to : ℕ) (row : Segment) (segment : List ℕ) → IsDatabase d → IsVolumeOf d v → w.size ≡ v.size → w.sizes ≡ v.sizes
    → IsSegment (links_of d.types v) a → (links_of d.types v).code a ≡ row.code → IsSegmentWith d.types row.code row.bytes (stored_at v a) segment → IsRewritten v a to segment w
    → IsSegmentSet d v a row to w
segment-set d v w a to row segment fit of size sizes there code with r =
    let m : Links = links_of d.types v in
    let h = segment-found d v a fit of there in
    let stored : stored_at v a ≡ h.bytes = stored-found d v a h in
    let some : 0 < v.size = positive _ _ (block_size-bounds d.block_size d.frspc d.types fit).0 of.size in
    let own : code_of h.bytes ≡ row.code = sym (ap code_of stored) ∙ code in
    let set : IsSegmentWith d.types (code_of h.bytes) row.bytes h.bytes segment =
    subst (λ (c : ℕ). IsSegmentWith d.types c row.bytes h.bytes segment) (sym own) (subst (λ (s : List ℕ). IsSegmentWith d.types row.code row.bytes s segment) stored with) in
    let replaced = rewriting-replaces d.types v w a to segment there r in
    let takes : length h.bytes ≡ size_with d.types (m.code a) (length (m.bytes a)) = takes-own d v a h in
    let need : length segment ≡ room_of d.types row = with.size in
    record {
      volume = record { fit = of.fit; formatted = r.formatted; size = size ∙ of.size; sizes = sizes ∙ of.sizes };
      records = agree-trans d.types (set_at m a to row.bytes) (with_record d.types (without_record m a) to segment) (links_of d.types w)
          (set-agrees d.types m a to row.bytes h.bytes segment (found-says d.types v a h.bytes there.some h.is) set) replaced.1;
      room = record {
        some = replaced.0;
        free = λ moved. not-here d.types v to replaced.0 (r.gone moved).0;
        stays = λ low. r.stays h.bytes h.is (omega (arith, need, takes));
        moves = λ low. r.moves h.bytes h.is (omega (arith, need, takes));
        rest = rest-rewritten of.formatted size some r;
        count = (count-rewritten of.formatted size some r).0;
        grows = (count-rewritten of.formatted size some r).1;
        by_one = r.by_one;
        spares = r.spares;
        in_hole = λ plain hole. r.in_hole plain (subst (HasHole v) (sym need) hole);
        holes = λ n more hole. subst (λ (k : ℕ). HasHole w (n - k)) need (r.holes n (omega (arith, need)) hole);
        in_place = r.in_place;
      };
    }
  where
    positive : (n m : ℕ) → 128 ≤ n → m ≡ n → 0 < m
    positive n m e f = omega arith

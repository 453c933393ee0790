-- A new leaf as it is laid out, and put.
use Rattle.std.proofs.Common.{◌≡◌, ℕ, ◌+◌, ◌-◌, ◌<◌, ◌≤◌, List, length, true, refl, sym, ap, subst, ◌∙◌, arith, Option, Some, None, IsTrue}
use Rattle.std.specs.Prelude.{OnSome, MatchOption, option_map}
use Rattle.hd_bytes.specs.Ranges.{ChangesOnly}
use Rattle.hd_dbd.specs.declared.hierarchy.FreeSpace.{FreeSpace}
use Rattle.hd_dbd.specs.Types.{SegmentType}
use Rattle.hd_dbd.specs.Segment.{Segment}
use Rattle.hd_dbd.specs.Hierarchy.{Database, type_of}
use Rattle.hd_dbd.specs.Prefixes.{is_backward_kept}
use Rattle.hd_dbd.specs.Rows.{row_fits}
use Rattle.hd_dbd.specs.Facts.{stored_sizes}
use Rattle.hd_dbd.specs.DatabaseRules.{well_formed}
use Rattle.hd_dbd.proofs.StoredSizes.{block_size-bounds}
use Rattle.hd_dbd.proofs.TypeLengths.{row-type, row-begins}
use Rattle.hd_volume.specs.Volumes.{VolumeState}
use Rattle.hd_volume.specs.Rooms.{HasHole}
use Rattle.hd_volume.specs.Calls.{IsPut}
use Rattle.hd_prefix.specs.declared.pointer.Pointer.TheVariants.{TwinForward, TwinBackward, FirstChild, LastChild}
use Rattle.hd_prefix.specs.Pointers.{place_of}
use Rattle.hd_prefix.specs.Fields.{new_segment, IsPointerSet, IsNewSegment}
use Rattle.hd_prefix.proofs.Places.{inside_some}
use Rattle.hd_prefix.proofs.Fitting.{row_prefix}
use Rattle.hd_prefix.proofs.Sizes.{size_long}
use Rattle.hd_image.proofs.RowSizes.{row-takes}
use Rattle.hd_prefix.proofs.NewSegments.{new_segment_is}
use Rattle.hd_image.specs.Records.{IsVolumeOf}
use Rattle.hd_image.specs.Laws.{IsDatabase}
use Rattle.hd_image.proofs.Puts.{putting-adds, put-free}
use Rattle.hd_forest.specs.Leaves.{IsLeaf, IsLeafPut}
use Rattle.hd_forest.proofs.Keeping.{rest-put, count-put}
use Rattle.hd_forest.proofs.Setting.{no-place}
use Rattle.hd_dbd.specs.declared.facts.SegmentSize.{SegmentSize}
use Rattle.hd_block.specs.Sizes.{size_at}

-- A row was made a new segment, and its twins' addresses were written.
pub record AreLaid (types : List SegmentType) (c : ℕ) (row : List ℕ) (y x : ℕ) (s0 s1 s2 : List ℕ) : Type 0 where
  pub new : s0 ≡ new_segment types c row
  pub forward : OnSome (place_of types c TwinForward) (IsPointerSet types c TwinForward x s0 s1)
  pub same : MatchOption (place_of types c TwinBackward) (s2 ≡ s1) (λ p. ChangesOnly p 4 s1 s2)
  pub backward : OnSome (place_of types c TwinBackward) (IsPointerSet types c TwinBackward y s1 s2)

-- with twin forward alone
pub half-leaf : (types : List SegmentType) (c : ℕ) (row : List ℕ) (x : ℕ) (s0 s1 : List ℕ) → IsNewSegment types c row s0 → IsPointerSet types c TwinForward x s0 s1
    → IsLeaf types (record { code = c; bytes = row }) 0 x s1
half-leaf types c row x s0 s1 new set = record {
  size = set.len ∙ new.size;
  code = set.code ∙ new.code;
  delete_byte = set.delete_byte ∙ new.delete_byte;
  bytes = set.bytes ∙ new.bytes;
  forward = set.is;
  backward = λ _. set.others TwinBackward (λ e. cc) ∙ new.pointers TwinBackward;
  first_child = λ t. set.others (FirstChild t) (λ e. cc) ∙ new.pointers (FirstChild t);
  last_child = λ t. set.others (LastChild t) (λ e. cc) ∙ new.pointers (LastChild t);
}

-- with both
whole-leaf : (types : List SegmentType) (c : ℕ) (row : List ℕ) (y x : ℕ) (s1 s2 : List ℕ) → IsLeaf types (record { code = c; bytes = row }) 0 x s1
    → IsPointerSet types c TwinBackward y s1 s2 → IsLeaf types (record { code = c; bytes = row }) y x s2
whole-leaf types c row y x s1 s2 half set = record {
  size = set.len ∙ half.size;
  code = set.code ∙ half.code;
  delete_byte = set.delete_byte ∙ half.delete_byte;
  bytes = set.bytes ∙ half.bytes;
  forward = set.others TwinForward (λ e. cc) ∙ half.forward;
  backward = λ _. set.is;
  first_child = λ t. set.others (FirstChild t) (λ e. cc) ∙ half.first_child t;
  last_child = λ t. set.others (LastChild t) (λ e. cc) ∙ half.last_child t;
}

-- twin backward is not kept
bare-leaf : (types : List SegmentType) (c : ℕ) (row : List ℕ) (y x : ℕ) (s : List ℕ) → IsLeaf types (record { code = c; bytes = row }) 0 x s
    → (is_backward_kept types c ≡ true → ⊥) → IsLeaf types (record { code = c; bytes = row }) y x s
bare-leaf types c row y x s half none = record {
  size = half.size;
  code = half.code;
  delete_byte = half.delete_byte;
  bytes = half.bytes;
  forward = half.forward;
  backward = λ kept. absurd (none kept);
  first_child = half.first_child;
  last_child = half.last_child;
}

backward-by : (types : List SegmentType) (c : ℕ) (row : List ℕ) (y x : ℕ) (s1 s2 : List ℕ) (o : Option ℕ) → place_of types c TwinBackward ≡ o → IsLeaf types (record { code = c; bytes = row }) 0 x s1
    → MatchOption o (s2 ≡ s1) (λ p. ChangesOnly p 4 s1 s2) → OnSome o (IsPointerSet types c TwinBackward y s1 s2) → IsLeaf types (record { code = c; bytes = row }) y x s2
backward-by types c row y x s1 s2 None is half same set =
    subst (λ s. IsLeaf types (record { code = c; bytes = row }) y x s) (sym same) (bare-leaf types c row y x s1 half (no-place (is_backward_kept types c) 6 is))
backward-by types c row y x s1 s2 (Some p) is half same set = whole-leaf types c row y x s1 s2 half set

forward-by : {P : Type 0} (x : ℕ) (o : Option SegmentType) (t : SegmentType) → o ≡ Some t → OnSome (option_map (λ _. x) o) P → P
forward-by {P} x o t is h = subst (λ z. OnSome (option_map (λ _. x) z) P) is h

pub laid-leaf : (block_size : ℕ) (frspc : FreeSpace) (types : List SegmentType) (c : ℕ) (row : List ℕ) (y x : ℕ) (s0 s1 s2 : List ℕ) → IsTrue (well_formed block_size frspc types)
    → row_fits types (record { code = c; bytes = row }) ≡ true → AreLaid types c row y x s0 s1 s2 → IsLeaf types (record { code = c; bytes = row }) y x s2
laid-leaf block_size frspc types c row y x s0 s1 s2 fit fits h =
    let own = row-type types (record { code = c; bytes = row }) fits in
    let new : IsNewSegment types c row s0 = subst (λ s. IsNewSegment types c row s) (sym h.new)
    (new_segment_is types c row (row_prefix types c row fits) (λ behind same. row-begins block_size frspc types c row behind fit fits same) (λ pointer. inside_some block_size frspc types c pointer (place_of types c pointer) fit refl)) in
    backward-by types c row y x s1 s2 (place_of types c TwinBackward) refl (half-leaf types c row x s0 s1 new (forward-by 2 (type_of types c) own.type own.is h.forward)) h.same h.backward

-- ---- the leaf is put

pub put-whole : (block_size : ℕ) (frspc : FreeSpace) (types : List SegmentType) (row : Segment) (y x : ℕ) (segment : List ℕ) (sizes : List SegmentSize) → IsTrue (well_formed block_size frspc types)
    → IsLeaf types row y x segment → row_fits types row ≡ true → sizes ≡ stored_sizes types → (0 < length segment) × (size_at sizes segment 0 ≡ length segment)
put-whole block_size frspc types row y x segment sizes fit leaf fits is = (
  some _ _ _ _ (row_prefix types row.code row.bytes fits) (size_long types row.code (length row.bytes)).0 leaf.size,
  ap (λ (s : List SegmentSize). size_at s segment 0) is
      ∙ row-takes block_size frspc types row.code row.bytes segment fit fits leaf.code leaf.bytes ∙ sym leaf.size,
)
  where
    some : (p n s l : ℕ) → 2 ≤ p → p + n ≤ s → l ≡ s → 0 < l
    some p n s l e f g = omega arith

pub leaf-put : (d : Database) (v w : VolumeState) (row : Segment) (y x a : ℕ) (segment : List ℕ) → IsDatabase d → IsVolumeOf d v → w.size ≡ v.size → w.sizes ≡ v.sizes
    → IsLeaf d.types row y x segment → IsPut v a segment w → IsLeafPut d v row y x a w
leaf-put d v w row y x a segment fit of size sizes leaf put =
    let some : 0 < v.size = positive _ _ (block_size-bounds d.block_size d.frspc d.types fit).0 of.size in
    let added = putting-adds d.types v w a segment some size put in
    record {
      volume = record { fit = of.fit; formatted = put.formatted; size = size ∙ of.size; sizes = sizes ∙ of.sizes };
      some = added.0;
      free = put-free d.types v w a segment added.0 put;
      segment = segment;
      leaf = leaf;
      records = added.1;
      rest = rest-put of.formatted size some put;
      count = (count-put of.formatted size some put).0;
      grows = (count-put of.formatted size some put).1;
      by_one = put.by_one;
      spares = put.spares;
      in_hole = λ plain h. put.in_hole plain (subst (λ n. HasHole v n) (sym leaf.size) h);
      holes = λ n more h. subst (λ k. HasHole w (n - k)) leaf.size (put.holes n (less _ _ _ leaf.size more) h);
    }
  where
    positive : (n m : ℕ) → 128 ≤ n → m ≡ n → 0 < m
    positive n m e f = omega arith

    less : (l s n : ℕ) → l ≡ s → s < n → l < n
    less l s n e f = omega arith

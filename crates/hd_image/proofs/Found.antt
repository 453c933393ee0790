-- A segment that is found in a database's volume.
use Rattle.std.proofs.Common.{◌≡◌, ◌≢◌, ℕ, ◌+◌, ◌*◌, ◌/◌, ◌%◌, ◌<◌, ◌≤◌, List, [], length, take, drop, slice_index, Bool, true, false, ◌||◌, refl, sym, ap, ap₂, subst, ◌∙◌, Option, Some, None, arith, ne_eqb, inl, inr}
use Rattle.std.specs.Prelude.{is_some}
use Rattle.std.specs.Option.{option_map_or}
use Rattle.std.proofs.Math.Nat.{mod-lt, zero-div}
use Rattle.std.proofs.lemmas.Bool.{cases_eq}
use Rattle.std.proofs.lemmas.List.{length-drop, get_or-drop}
use Rattle.hd_bytes.specs.Ranges.{with_bytes}
use Rattle.hd_bytes.proofs.NumberLemmas.{changes-with}
use Rattle.hd_bytes.proofs.BlockLemmas.{byte-at, place-of}
use Rattle.hd_dbd.specs.Types.{SegmentType}
use Rattle.hd_dbd.specs.Hierarchy.{Database, type_of}
use Rattle.hd_dbd.specs.Lengths.{least_length, own_length, length_fits}
use Rattle.hd_dbd.specs.Facts.{stored_sizes}
use Rattle.hd_dbd.specs.Prefixes.{prefix_length, size_with}
use Rattle.hd_dbd.specs.Rows.{row_fits}
use Rattle.hd_dbd.proofs.StoredSizes.{block_size-bounds}
use Rattle.hd_dbd.proofs.TypeLengths.{type-row, type-lengths, front-fits}
use Rattle.hd_block.proofs.SizeLemmas.{size-moved, own-size, size-by-said}
use Rattle.hd_volume.specs.Volumes.{VolumeState, block_at}
use Rattle.hd_volume.specs.Records.{find}
use Rattle.hd_volume.specs.Calls.{KeepsSize}
use Rattle.hd_volume.proofs.ExtentLemmas.{used-is, segment-some}
use Rattle.hd_volume.proofs.MapLemmas.{find-some, find-there}
use Rattle.hd_prefix.specs.Fields.{code_of, length_of, bytes_of, IsWhole}
use Rattle.hd_prefix.proofs.Sizes.{size_long}
use Rattle.hd_links.specs.Links.{IsSegment}
use Rattle.hd_image.specs.Records.{stored_at, links_of, IsVolumeOf}
use Rattle.hd_image.specs.Laws.{IsDatabase, RecordsAreALinkGraph}
use Rattle.hd_image.proofs.Roots.{header-code}
use Rattle.hd_dbd.specs.declared.facts.SegmentSize.{SegmentSize}
use Rattle.hd_block.specs.Sizes.{size_at}

-- A segment at an address has a type, its prefix and its own bytes, as many as the type allows, and stands in the image behind block 0.
pub record HasSegmentOf (d : Database) (v : VolumeState) (a : ℕ) : Type 0 where
  pub bytes : List ℕ
  pub is : find v a ≡ Some bytes
  pub own : SegmentType
  pub typed : type_of d.types (code_of bytes) ≡ Some own
  pub least : least_length own ≤ length_of d.types (code_of bytes) bytes
  pub most : length_of d.types (code_of bytes) bytes ≤ own.length
  pub size : length bytes ≡ size_with d.types (code_of bytes) (length_of d.types (code_of bytes) bytes)
  pub whole : IsWhole d.types (code_of bytes) bytes
  pub some : 0 < a
  pub below : a < length v.image

-- a segment has the bytes that it takes by its own first bytes
segment-long : (d : Database) (v : VolumeState) (a : ℕ) (s : List ℕ) → IsDatabase d → IsVolumeOf d v → find v a ≡ Some s
    → (8 ≤ length s) × (size_at (stored_sizes d.types) s 0 ≡ length s)
segment-long d v a s fit of is =
    let k = find-some v a s is in
    let block : List ℕ = block_at v (a / v.size) in
    let kind = find-there v a 0 of.formatted (record { bytes = s; is = is; long = omega arith }) in
    let x = of.formatted.divided (a / v.size) kind in
    let u = segment-some v.sizes block x.extents x.divides x.whole (a % v.size) s k.segment in
    let used = used-is v.sizes block 8 _ x.extents (a % v.size) (length s) x.divides u.0 in
    let some : 8 ≤ length s = used.some in
    let size : size_at (stored_sizes d.types) block (a % v.size) ≡ length s = ap (λ (sizes : List SegmentSize). size_at sizes block (a % v.size)) (sym of.sizes) ∙ used.size in (
      some,
      size-moved (stored_sizes d.types) block s (a % v.size) 0 (length s)
          (λ j low. ap (λ (b : List ℕ). slice_index b (0 + j)) u.1 ∙ byte-at block (a % v.size) (length s) (0 + j) used.within (omega (arith, low)) ∙ ap (λ (m : ℕ). slice_index block (a % v.size + m)) (let e : 0 + j ≡ j = omega arith in e))
          some size,
    )

pub found-of : (d : Database) (v : VolumeState) (a : ℕ) (s : List ℕ) → IsDatabase d → IsVolumeOf d v → find v a ≡ Some s → HasSegmentOf d v a
found-of d v a s fit of is =
    let k = find-some v a s is in
    let kind = find-there v a 0 of.formatted (record { bytes = s; is = is; long = omega arith }) in
    let long = segment-long d v a s fit of is in
    let has = own-size d.types s 0 (length s) long.0 long.1 in
    let large : 128 ≤ v.size = (let b = (block_size-bounds d.block_size d.frspc d.types fit).0 in let e = of.size in omega arith) in
    let start : 0 + prefix_length d.types (code_of s) ≡ prefix_length d.types (code_of s) = omega arith in
    let own : own_length has.type (drop (0 + prefix_length d.types (code_of s)) s) ≡ length_of d.types (code_of s) s =
    ap (λ (p : ℕ). own_length has.type (drop p s)) start
    ∙ ap (λ (o : Option SegmentType). option_map_or (λ t. own_length t (drop (prefix_length d.types (code_of s)) s)) o 0) (sym has.is) in
    let size : length s ≡ size_with d.types (code_of s) (length_of d.types (code_of s) s) = has.size ∙ ap (size_with d.types (code_of s)) own in
    record {
      bytes = s;
      is = is;
      own = has.type;
      typed = has.is;
      least = omega (arith, has.least, own);
      most = omega (arith, has.most, own);
      size = size;
      whole = omega (arith, (size_long d.types (code_of s) (length_of d.types (code_of s) s)).0, size);
      some = inside-some a v.size k.later;
      below = inside-below a v.size (length v.image) (omega arith) kind.there;
    }
  where
    inside-some : (a n : ℕ) → a / n ≢ 0 → 0 < a
    inside-some a n later = elim (cases_eq a 0) [
      | inl e ↦ absurd (later (ap (λ (k : ℕ). k / n) e ∙ zero-div n))
      | inr ne ↦ omega arith
    ]

    inside-below : (a n l : ℕ) → 0 < n → (a / n) * n + n ≤ l → a < l
    inside-below a n l some there = let at = place-of n a some in let low = mod-lt a some in omega arith

-- it has its prefix and its own bytes
pub found-whole : (d : Database) (v : VolumeState) (a : ℕ) (s : List ℕ) → IsDatabase d → IsVolumeOf d v → find v a ≡ Some s → IsWhole d.types (code_of s) s
unfolding found-of
found-whole d v a s fit of is = (found-of d v a s fit of is).whole

-- a whole segment that has the code and the own length of another takes as many bytes
size-alike : (d : Database) (v : VolumeState) (a : ℕ) (s t : List ℕ) → IsDatabase d → IsVolumeOf d v → find v a ≡ Some s → slice_index t 0 ≡ slice_index s 0
    → ((k : ℕ) → k < 2 → slice_index (drop (prefix_length d.types (code_of s)) t) k ≡ slice_index (drop (prefix_length d.types (code_of s)) s) k)
    → size_at v.sizes t 0 ≡ length s
size-alike d v a s t fit of is code said =
    let long = segment-long d v a s fit of is in
    ap (λ (sizes : List SegmentSize). size_at sizes t 0) of.sizes ∙ size-by-said d.types s t code said ∙ long.1

-- bytes that are written into the prefix of a segment past its code leave it its size
pub keeps-size : (d : Database) (v : VolumeState) (a o : ℕ) (bytes : List ℕ) → IsDatabase d → IsVolumeOf d v → 0 < o
    → ((s : List ℕ) → find v a ≡ Some s → o + length bytes ≤ prefix_length d.types (code_of s)) → KeepsSize v a o bytes
keeps-size d v a o bytes fit of past inside s is =
    let p : ℕ = prefix_length d.types (code_of s) in
    let within : o + length bytes ≤ p = inside s is in
    let long : o + length bytes ≤ length s = omega (arith, within, found-whole d v a s fit of is) in
    let changes = changes-with s bytes o long in
    size-alike d v a s (with_bytes s o bytes) fit of is (changes.below 0 past)
    (λ k low. get_or-drop p (with_bytes s o bytes) k 0 ∙ changes.above (p + k) (omega (arith, within)) ∙ sym (get_or-drop p s k 0))

-- the record at an address behind the header is a segment that is found
pub segment-found : (d : Database) (v : VolumeState) (a : ℕ) → IsDatabase d → IsVolumeOf d v → IsSegment (links_of d.types v) a → HasSegmentOf d v a
segment-found d v a fit of s = by (find v a) refl
  where
    by : (o : Option (List ℕ)) → find v a ≡ o → HasSegmentOf d v a
    by (Some bytes) is = found-of d v a bytes fit of is
    by None is =
        let bad : false ≡ true = sym (ap₂ (λ (x : Bool) (o : Option (List ℕ)). x || is_some o) (ne_eqb a 0 (λ e. let some = s.some in omega arith)) is) ∙ s.here in absurd (cc)

-- what is stored at its address
pub stored-found : (d : Database) (v : VolumeState) (a : ℕ) (h : HasSegmentOf d v a) → stored_at v a ≡ h.bytes
stored-found d v a h = ap (λ o. option_map_or (λ segment. segment) o []) h.is

-- its row fits
pub row-found : (d : Database) (v : VolumeState) (a : ℕ) (h : HasSegmentOf d v a) → IsDatabase d
    → row_fits d.types (record { code = (links_of d.types v).code a; bytes = (links_of d.types v).bytes a }) ≡ true
row-found d v a h fit =
    let c : ℕ = code_of h.bytes in
    let behind : List ℕ = drop (prefix_length d.types c) h.bytes in
    let own : own_length h.own behind ≡ length_of d.types c h.bytes = ap (λ (o : Option SegmentType). option_map_or (λ t. own_length t behind) o 0) (sym h.typed) in
    let there : own_length h.own behind ≤ length behind = omega (arith, own, h.whole, length-drop (prefix_length d.types c) h.bytes) in
    subst (λ s. row_fits d.types (record { code = code_of s; bytes = bytes_of d.types (code_of s) s }) ≡ true) (sym (stored-found d v a h))
    (type-row d.types (record { code = c; bytes = bytes_of d.types c h.bytes }) h.own h.typed
    (subst (λ (n : ℕ). length_fits h.own (take n behind) ≡ true) own
    (front-fits h.own behind (type-lengths d.block_size d.frspc d.types c h.own fit h.typed) (omega (arith, own, h.least)) (omega (arith, own, h.most)) there)))

pub records-link : RecordsAreALinkGraph
records-link d v fit of = record {
  header = refl;
  header_code = header-code d.types v;
  fits = λ a s. row-found d v a (segment-found d v a fit of s) fit;
  below = λ a s. (segment-found d v a fit of s).below;
}

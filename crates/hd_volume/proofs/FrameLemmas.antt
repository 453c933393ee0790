-- What a change of one block leaves of a volume.
use Rattle.std.proofs.Common.{◌≡◌, ◌≢◌, inl, inr, ℕ, zero, suc, ◌+◌, ◌*◌, ◌/◌, ◌<◌, ◌≤◌, ◌==◌, not, ◌&&◌, min, List, length, slice_index, refl, sym, ap, ◌∙◌, arith, subst}
use Rattle.std.proofs.lemmas.Bool.{cases_lt, cases_eq, eq-eqb}
use Rattle.std.proofs.lemmas.Nat.{row_fits}
use Rattle.std.proofs.Math.Nat.{mul-le-mul_right}
use Rattle.hd_bytes.specs.Blocks.{block_of, HasBlock}
use Rattle.hd_bytes.proofs.BlockLemmas.{byte-in-block, agree-bytes_at}
use Rattle.hd_bytes.proofs.NumberLemmas.{number-same}
use Rattle.hd_block.specs.Walk.{parts_in}
use Rattle.hd_volume.specs.declared.space.Space.{Space}
use Rattle.hd_volume.specs.Images.{ChangesBlock}
use Rattle.hd_volume.specs.Headers.{Header, header_of, HasHeader}
use Rattle.hd_volume.specs.Volumes.{VolumeState, block_at, kind_of, IsKind, HasExtents, IsFormatted}
use Rattle.hd_volume.specs.Records.{find}
use Rattle.hd_volume.specs.Rooms.{is_free, one_if, free_below, spare, largest_hole}
use Rattle.hd_volume.specs.Spaces.{blocks_in, content_at, IsSpaceOf}
use Rattle.hd_volume.specs.Spacing.{HasBytesFree}
use Rattle.hd_volume.specs.Calls.{KeepsHoles, KeepsFree}
use Rattle.hd_volume.proofs.MapLemmas.{past-end}
use Rattle.hd_dbd.specs.declared.facts.SegmentSize.{SegmentSize}

-- ---- the header

-- two images with one block 0 have one header
pub header-same : (size : ℕ) (a b : List ℕ) → 44 ≤ size → HasBlock size a 0 → HasBlock size b 0 → block_of size a 0 ≡ block_of size b 0 → header_of a ≡ header_of b
header-same size a b least h k same =
    let agree = λ (j : ℕ) (low : j < size). (let e : slice_index a j ≡ slice_index b j =
    ap (slice_index a) (let z : j ≡ 0 * size + j = omega arith in z) ∙ sym (byte-in-block size 0 j a h low) ∙ ap (λ (t : List ℕ). slice_index t j) same
    ∙ byte-in-block size 0 j b k low ∙ ap (slice_index b) (let z : 0 * size + j ≡ j = omega arith in z) in e) in
    let number = λ (n p : ℕ) (fits : p + n ≤ size). number-same n p a b (λ j low high. agree j (omega arith)) in
    let long : size ≤ length a = omega arith in
    let long' : size ≤ length b = omega arith in
    let bytes = λ (n p : ℕ) (fits : p + n ≤ size). agree-bytes_at p n a b (omega arith) (omega arith) (λ j low high. agree j (omega arith)) in
    rw (bytes 8 0 (omega arith), number 2 8 (omega arith), number 2 10 (omega arith), number 4 12 (omega arith), number 4 16 (omega arith), bytes 8 20 (omega arith), number 4 28 (omega arith), number 4 32 (omega arith), number 4 36 (omega arith), number 4 40 (omega arith)) refl

-- ---- two states of a volume

-- one block size and the same stored sizes
pub record AreSame (v w : VolumeState) : Type 0 where
  pub size : w.size ≡ v.size
  pub sizes : w.sizes ≡ v.sizes

module _ {v w : VolumeState} (s : AreSame v w) where
  pub block-seen : (n : ℕ) → block_at w n ≡ block_of v.size w.image n
  block-seen n = ap (λ (z : ℕ). block_of z w.image n) s.size

  -- the map at an address depends on the bytes of one block
  pub find-frame : (a : ℕ) → block_of v.size w.image (a / v.size) ≡ block_at v (a / v.size) → find w a ≡ find v a
  find-frame a h = rw (s.size, s.sizes, h) refl

  -- a block that stays is of the kind that it was
  pub kind-back : (k n : ℕ) → length w.image ≡ length v.image → kind_of (block_of v.size w.image n) ≡ kind_of (block_at v n) → IsKind w k n → IsKind v k n
  kind-back k n len same h = record {
    there = (let t : n * v.size + v.size ≤ length w.image = rw s.size at h.there in omega arith);
    later = h.later;
    kind_is = sym same ∙ sym (ap kind_of (block-seen n)) ∙ h.kind_is;
  }

  pub kind-on : (k n : ℕ) → length w.image ≡ length v.image → kind_of (block_of v.size w.image n) ≡ kind_of (block_at v n) → IsKind v k n → IsKind w k n
  kind-on k n len same h = record {
    there = (let t : n * v.size + v.size ≤ length v.image = h.there in rw s.size (omega arith));
    later = h.later;
    kind_is = ap kind_of (block-seen n) ∙ same ∙ h.kind_is;
  }

  -- a block in which no less is free
  pub keeps-free : (n : ℕ) → ((need : ℕ) → HasBytesFree v.sizes need (block_at v n) → HasBytesFree v.sizes need (block_of v.size w.image n)) → KeepsFree v w n
  keeps-free n h need before =
      let P : List ℕ → Type 0 = λ b. HasBytesFree w.sizes need b in
      let Q : List SegmentSize → Type 0 = λ z. HasBytesFree z need (block_of v.size w.image n) in
      subst P (sym (block-seen n)) (subst Q (sym s.sizes) (h need before))

-- Block n has changed, and no other.
pub record HasChanged (v w : VolumeState) (n : ℕ) : Type 0 where
  pub same : AreSame v w
  pub change : ChangesBlock v.size n v.image w.image

-- where all kinds stay, so does the number of free blocks
pub free-same : (size : ℕ) (a b : List ℕ) (n : ℕ) → ((m : ℕ) → m ≢ 0 → kind_of (block_of size b m) ≡ kind_of (block_of size a m)) → free_below size b n ≡ free_below size a n
free-same size a b zero h = refl
free-same size a b (suc n) h =
    let one : one_if (is_free size b n) ≡ one_if (is_free size a n) =
    elim (cases_eq n 0) [
      | inl z ↦ (let e : is_free size b n ≡ is_free size a n = rw (eq-eqb n 0 z) refl in ap one_if e)
      | inr some ↦ ap (λ (k : ℕ). one_if (not (n == 0) && k == 3)) (h n some)
    ]
    in rw (free-same size a b n h, one) refl

module _ {v w : VolumeState} {n : ℕ} (c : HasChanged v w n) (header : HasHeader v.size v.image) where
  -- every other block stays, also behind the end
  pub other-blocks : (m : ℕ) → m ≢ n → block_of v.size w.image m ≡ block_at v m
  other-blocks m other =
      elim (cases_lt m (header_of v.image).count) [
        | inl l ↦
            (let fits : m * v.size + v.size ≤ (header_of v.image).count * v.size = row_fits m v.size (header_of v.image).count v.size l (omega arith) in
            let whole = header.whole in c.change.others m (omega arith) other)
        | inr l ↦
            (let past : (header_of v.image).count * v.size ≤ m * v.size = mul-le-mul_right v.size (let h : (header_of v.image).count ≤ m = omega arith in h) in
            let whole = header.whole in let len = c.change.len in past-end v.size m w.image (omega arith) ∙ sym (past-end v.size m v.image (omega arith)))
      ]

  -- segments of other blocks stay
  pub other-segments : (a : ℕ) → a / v.size ≢ n → find w a ≡ find v a
  other-segments a other = find-frame c.same a (other-blocks (a / v.size) other)

  -- so does the header where another block changes
  pub keeps-header : 44 ≤ v.size → n ≢ 0 → header_of w.image ≡ header_of v.image
  keeps-header least some =
      let len = c.change.len in
      let there = header.first in
      header-same v.size w.image v.image least (omega arith) there (other-blocks 0 (λ e. some (sym e)))

  pub has-header : header_of w.image ≡ header_of v.image → HasHeader w.size w.image
  has-header same =
      let len = c.change.len in
      let there = header.first in
      let count : (header_of w.image).count ≡ (header_of v.image).count = ap (λ (h : Header). h.count) same in
      let largest : (header_of w.image).largest ≡ (header_of v.image).largest = ap (λ (h : Header). h.largest) same in
      record {
        first = rw c.same.size (omega arith);
        mark = ap (λ (h : Header). h.mark) same ∙ header.mark;
        whole = len ∙ header.whole ∙ (let e : (header_of v.image).count * v.size ≡ (header_of w.image).count * w.size = rw (count, c.same.size) refl in e);
        within = rw (count, largest) header.within;
        bound = rw largest header.bound;
      }

  -- a change that leaves the kind of the block leaves all kinds
  pub keeps-kinds : kind_of (block_of v.size w.image n) ≡ kind_of (block_at v n) → (m : ℕ) → kind_of (block_of v.size w.image m) ≡ kind_of (block_at v m)
  keeps-kinds own m = elim (cases_eq m n) [ inl e ↦ rw e own | inr other ↦ ap kind_of (other-blocks m other) ]

  pub keeps-spare : header_of w.image ≡ header_of v.image → kind_of (block_of v.size w.image n) ≡ kind_of (block_at v n) → spare w ≡ spare v
  keeps-spare same own =
      let free : free_below v.size w.image (header_of v.image).count ≡ free_below v.size v.image (header_of v.image).count =
      free-same v.size v.image w.image (header_of v.image).count (λ m some. keeps-kinds own m) in
      let count : (header_of w.image).count ≡ (header_of v.image).count = ap (λ (h : Header). h.count) same in
      let largest : (header_of w.image).largest ≡ (header_of v.image).largest = ap (λ (h : Header). h.largest) same in
      rw (count, largest, c.same.size, free) refl

  -- a block that keeps its kind and has extents, if it is for data, leaves the volume formatted
  pub keeps-formatted : IsFormatted v → header_of w.image ≡ header_of v.image → kind_of (block_of v.size w.image n) ≡ kind_of (block_at v n)
      → (kind_of (block_at v n) ≡ 1 → HasExtents v.sizes (block_of v.size w.image n)) → IsFormatted w
  keeps-formatted f same own extents = record {
    header = has-header same;
    divided = λ m k.
        let back = kind-back c.same 1 m c.change.len (keeps-kinds own m) k in
        let P : List ℕ → Type 0 = λ b. HasExtents w.sizes b in
        let Q : List SegmentSize → Type 0 = λ z. HasExtents z (block_of v.size w.image m) in
        subst P (sym (block-seen c.same m)) (subst Q (sym c.same.sizes)
        (elim (cases_eq m n) [
          | inl e ↦ (let R : ℕ → Type 0 = λ i. HasExtents v.sizes (block_of v.size w.image i) in
              let own_kind : kind_of (block_at v n) ≡ 1 = ap (λ (i : ℕ). kind_of (block_at v i)) (sym e) ∙ back.kind_is in subst R (sym e) (extents own_kind))
          | inr other ↦ (let R : List ℕ → Type 0 = λ b. HasExtents v.sizes b in subst R (sym (other-blocks m other)) (f.divided m back))
        ]));
  }

  -- where no hole of the block becomes smaller, none does
  pub keeps-holes : kind_of (block_of v.size w.image n) ≡ kind_of (block_at v n)
      → (kind_of (block_at v n) ≡ 1 → largest_hole (parts_in v.sizes (block_at v n)) ≤ largest_hole (parts_in v.sizes (block_of v.size w.image n))) → KeepsHoles v w
  keeps-holes own more k h =
      let m : ℕ = h.block in
      let on = kind-on c.same 1 m c.change.len (keeps-kinds own m) h.is_data in
      let large : k ≤ largest_hole (parts_in v.sizes (block_of v.size w.image m)) =
      elim (cases_eq m n) [
        | inl e ↦ (let R : ℕ → Type 0 = λ i. k ≤ largest_hole (parts_in v.sizes (block_of v.size w.image i)) in
            let is : kind_of (block_at v n) ≡ 1 = ap (λ (i : ℕ). kind_of (block_at v i)) (sym e) ∙ h.is_data.kind_is in
            let big : k ≤ largest_hole (parts_in v.sizes (block_at v n)) = (let S : ℕ → Type 0 = λ i. k ≤ largest_hole (parts_in v.sizes (block_at v i)) in subst S e h.large) in
            let up = more is in subst R (sym e) (omega arith))
        | inr other ↦ (let R : List ℕ → Type 0 = λ b. k ≤ largest_hole (parts_in v.sizes b) in subst R (sym (other-blocks m other)) h.large)
      ]
      in
      let P : List ℕ → Type 0 = λ b. k ≤ largest_hole (parts_in w.sizes b) in
      let Q : List SegmentSize → Type 0 = λ z. k ≤ largest_hole (parts_in z (block_of v.size w.image m)) in
      record { block = m; is_data = on; large = subst P (sym (block-seen c.same m)) (subst Q (sym c.same.sizes) large) }

  -- what is kept of the blocks stays true where the block keeps its kind and its holes are not above the bound
  pub keeps-space : (space : Space) → IsSpaceOf v.size v.sizes v.image space → kind_of (block_of v.size w.image n) ≡ kind_of (block_at v n)
      → (kind_of (block_at v n) ≡ 1 → n < blocks_in v.size v.image → largest_hole (parts_in v.sizes (block_of v.size w.image n)) ≤ (content_at space n).hole)
      → IsSpaceOf v.size v.sizes w.image space
  keeps-space space h own bound =
      let blocks : blocks_in v.size w.image ≡ blocks_in v.size v.image = ap (λ (k : ℕ). min (k / v.size) 65536) c.change.len in
      record {
        len = h.len ∙ sym blocks;
        contents = λ m some below.
            let low : m < blocks_in v.size v.image = rw blocks at below in
            let old = h.contents m some low in
            record {
              kind_is = old.kind_is ∙ sym (keeps-kinds own m);
              bound = λ is. elim (cases_eq m n) [
                | inl e ↦ (let P : ℕ → Type 0 = λ i. largest_hole (parts_in v.sizes (block_of v.size w.image i)) ≤ (content_at space i).hole in
                    let one : kind_of (block_at v n) ≡ 1 = ap (λ (i : ℕ). kind_of (block_at v i)) (sym e) ∙ sym old.kind_is ∙ is in subst P (sym e) (bound one (omega arith)))
                | inr other ↦ (let P : List ℕ → Type 0 = λ b. largest_hole (parts_in v.sizes b) ≤ (content_at space m).hole in subst P (sym (other-blocks m other)) (old.bound is))
              ];
            };
        lowest = λ k m some low below. h.lowest k m some low (rw blocks at below);
        free = h.free ∙ (let e : free_below v.size v.image (blocks_in v.size v.image) ≡ free_below v.size w.image (blocks_in v.size w.image) =
            sym (free-same v.size v.image w.image (blocks_in v.size v.image) (λ m some. keeps-kinds own m)) ∙ ap (λ (k : ℕ). free_below v.size w.image k) (sym blocks) in e);
        lowest_free = λ m some low below is. h.lowest_free m some low (rw blocks at below) (sym (keeps-kinds own m) ∙ is);
      }

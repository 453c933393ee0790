-- What the calls on segments do to a volume.
use Rattle.std.proofs.Common.{◌≡◌, ◌≢◌, ◌⊎◌, inl, inr, ℕ, ◌+◌, ◌*◌, ◌/◌, ◌%◌, ◌<◌, ◌≤◌, min, List, length, slice_index, slice_index_or, slice_set, vec_len, get_or-set_other, get_or-set_same, Some, refl, sym, ap, ◌∙◌, arith, ne_eqb, subst}
use Rattle.std.proofs.lemmas.Bool.{cases_lt, cases_eq, eq-eqb}
use Rattle.std.proofs.lemmas.List.{get_or_past}
use Rattle.std.proofs.Math.ListN.{length-set}
use Rattle.hd_bytes.specs.Ranges.{bytes_at, with_bytes}
use Rattle.hd_bytes.specs.Blocks.{block_of, HasBlock}
use Rattle.hd_bytes.proofs.BlockLemmas.{place-of, length-block, byte-at}
use Rattle.hd_bytes.proofs.NumberLemmas.{length-with}
use Rattle.hd_block.proofs.SizeLemmas.{size-moved}
use Rattle.hd_block.specs.Extents.{Extent, IsDivided, UsedAt}
use Rattle.hd_block.specs.Parts.{largest_free}
use Rattle.hd_block.specs.Walk.{parts_in}
use Rattle.std.proofs.Math.Nat.{mul-div_cancel}
use Rattle.hd_volume.specs.declared.space.Space.{Space}
use Rattle.hd_volume.specs.declared.space.Content.{Content}
use Rattle.hd_volume.specs.Edits.{IsGiven}
use Rattle.hd_volume.specs.Images.{ChangesBlock}
use Rattle.hd_volume.specs.Headers.{header_of, HasHeader}
use Rattle.hd_volume.specs.Volumes.{VolumeState, block_at, kind_of, IsKind, HasExtents, IsFormatted}
use Rattle.hd_volume.specs.Records.{segment_in, find}
use Rattle.hd_volume.specs.Rooms.{free_below, largest_hole}
use Rattle.hd_volume.specs.Spaces.{blocks_in, content_at, IsContent, IsSpaceOf, AreDivided}
use Rattle.hd_volume.specs.Calls.{KeepsOthers, HasSegment, KeepsSize, IsWritten, IsFreed}
use Rattle.hd_volume.proofs.MapLemmas.{IsFound, find-some, find-in, find-there}
use Rattle.hd_volume.specs.Spacing as left
use Rattle.hd_volume.proofs.ExtentLemmas.{IsUsed, used-is, segment-some}
use Rattle.hd_volume.proofs.FreeLemmas.{stays-free, segment-parts}
use Rattle.hd_volume.proofs.EditLemmas.{IsEdited, with-inside, write-edits, IsFreeIn, free-edits, largest-divided}
use Rattle.hd_volume.proofs.FrameLemmas.{AreSame, HasChanged, block-seen, kind-on, other-blocks, other-segments, keeps-header, keeps-kinds, keeps-spare, keeps-formatted, keeps-holes, keeps-free, keeps-space, free-same}
use Rattle.hd_volume.proofs.SpaceLemmas.{whole-block}
use Rattle.hd_dbd.specs.declared.facts.SegmentSize.{SegmentSize}
use Rattle.hd_block.specs.Sizes.{size_at}

-- in a data block the map has the segments of the block
pub find-new : (v w : VolumeState) → AreSame v w → (a : ℕ) → a / v.size ≢ 0 → kind_of (block_of v.size w.image (a / v.size)) ≡ 1
    → find w a ≡ segment_in v.sizes (block_of v.size w.image (a / v.size)) (a % v.size)
find-new v w s a later kind = rw (s.size, s.sizes, ne_eqb (a / v.size) 0 later, eq-eqb (kind_of (block_of v.size w.image (a / v.size))) 1 kind) refl

-- two addresses with one block and one place are one
one-address : (size a b : ℕ) → 0 < size → b / size ≡ a / size → b % size ≡ a % size → b ≡ a
one-address size a b some block place =
    let x = place-of size a some in
    let y = place-of size b some in
    let e : (b / size) * size ≡ (a / size) * size = ap (λ (k : ℕ). k * size) block in
    omega arith

-- a data block all of whose other segments stay
pub keeps-others : (v w : VolumeState) (a : ℕ) → HasChanged v w (a / v.size) → HasHeader v.size v.image → 0 < v.size → a / v.size ≢ 0
    → kind_of (block_at v (a / v.size)) ≡ 1 → kind_of (block_of v.size w.image (a / v.size)) ≡ 1
    → ((p : ℕ) → p ≢ a % v.size → segment_in v.sizes (block_of v.size w.image (a / v.size)) p ≡ segment_in v.sizes (block_at v (a / v.size)) p)
    → KeepsOthers v w a
keeps-others v w a c header some later was is stay b other =
    elim (cases_eq (b / v.size) (a / v.size)) [
      | inr apart ↦ other-segments c header b apart
      | inl same ↦
          let at : b % v.size ≢ a % v.size = λ e. other (one-address v.size a b some same e) in
          let P : ℕ → Type 0 = λ n. segment_in v.sizes (block_of v.size w.image n) (b % v.size) ≡ segment_in v.sizes (block_at v n) (b % v.size) in
          let stays = subst P (sym same) (stay (b % v.size) at) in
          let later' : b / v.size ≢ 0 = λ e. later (sym same ∙ e) in
          find-new v w c.same b later' (ap (λ (n : ℕ). kind_of (block_of v.size w.image n)) same ∙ is) ∙ stays
          ∙ sym (find-in v b later' (ap (λ (n : ℕ). kind_of (block_at v n)) same ∙ was))
    ]

-- ---- writing

module _ (v w : VolumeState) (a o : ℕ) (bs : List ℕ) (f : IsFormatted v) (h : HasSegment v a (o + length bs)) (keeps : KeepsSize v a o bs) (least : 44 ≤ v.size)
    (c : HasChanged v w (a / v.size)) (new : block_of v.size w.image (a / v.size) ≡ with_bytes (block_at v (a / v.size)) (a % v.size + o) bs) where
  found : IsFound v a h.bytes
  found = find-some v a h.bytes h.is

  there : IsKind v 1 (a / v.size)
  there = find-there v a (o + length bs) f h

  x : HasExtents v.sizes (block_at v (a / v.size))
  x = f.divided (a / v.size) there

  s : (UsedAt 8 x.extents (a % v.size) (length h.bytes)) × (h.bytes ≡ bytes_at (block_at v (a / v.size)) (a % v.size) (length h.bytes))
  s = segment-some v.sizes (block_at v (a / v.size)) x.extents x.divides x.whole (a % v.size) h.bytes found.segment

  u : IsUsed v.sizes (block_at v (a / v.size)) 8 (a % v.size) (length h.bytes)
  u = used-is v.sizes (block_at v (a / v.size)) 8 _ x.extents (a % v.size) (length h.bytes) x.divides s.0

  -- the segment with the bytes takes as many in its block
  sized : size_at v.sizes (with_bytes (block_at v (a / v.size)) (a % v.size + o) bs) (a % v.size) ≡ length h.bytes
  sized =
      let b : List ℕ = block_at v (a / v.size) in
      let b' : List ℕ = with_bytes b (a % v.size + o) bs in
      let q : ℕ = a % v.size in
      let long = h.long in
      let within = u.within in
      let is : bytes_at b' q (length h.bytes) ≡ with_bytes h.bytes o bs =
      with-inside b bs q (length h.bytes) o within long ∙ ap (λ (z : List ℕ). with_bytes z o bs) (sym s.1) in
      let len = length-with b bs (q + o) (omega arith) in
      size-moved v.sizes (with_bytes h.bytes o bs) b' 0 q (length h.bytes)
      (λ k l. sym (byte-at b' q (length h.bytes) k (omega arith) l) ∙ ap (λ (z : List ℕ). slice_index z k) is ∙ ap (slice_index (with_bytes h.bytes o bs)) (let z : k ≡ 0 + k = omega arith in z)) u.some (keeps h.bytes h.is)

  edited : IsEdited v.sizes (block_at v (a / v.size)) (block_of v.size w.image (a / v.size)) x.extents (a % v.size) (length h.bytes) o bs
  edited =
      let P : List ℕ → Type 0 = λ b. IsEdited v.sizes (block_at v (a / v.size)) b x.extents (a % v.size) (length h.bytes) o bs in
      subst P (sym new) (write-edits v.sizes (block_at v (a / v.size)) x.extents (a % v.size) (length h.bytes) o bs x.divides x.whole s.0 sized h.long)

  pub write-writes : IsWritten v a o bs w
  write-writes =
      let later : a / v.size ≢ 0 = found.later in
      let header = keeps-header c f.header least later in
      let some : 0 < v.size = omega arith in
      let is : kind_of (block_of v.size w.image (a / v.size)) ≡ 1 = edited.kind ∙ found.kind in
      record {
        formatted = keeps-formatted c f.header f header edited.kind (λ _. record { extents = x.extents; divides = edited.divides; whole = x.whole });
        is = λ t e.
            let same : t ≡ h.bytes = (let z : Some t ≡ Some h.bytes = sym e ∙ h.is in cc) in
            find-new v w c.same a later is ∙ edited.is ∙ ap (λ (z : List ℕ). Some (with_bytes z o bs)) (sym s.1 ∙ sym same);
        others = keeps-others v w a c f.header some later found.kind is edited.others;
        block = c.change;
        kinds = λ n. ap kind_of (block-seen c.same n) ∙ keeps-kinds c f.header edited.kind n;
        header = header;
        spares = keeps-spare c f.header header edited.kind;
        holes = keeps-holes c f.header edited.kind (λ _. (let e : largest_hole (parts_in v.sizes (block_of v.size w.image (a / v.size))) ≡ largest_hole (parts_in v.sizes (block_at v (a / v.size))) = ap largest_hole edited.parts in omega arith));
        free = keeps-free c.same (a / v.size) (stays-free v.sizes (block_at v (a / v.size)) (block_of v.size w.image (a / v.size))
            (λ p some none. some (segment-parts v.sizes (block_at v (a / v.size)) (block_of v.size w.image (a / v.size)) p edited.parts none)) (let e : left.free_bytes (parts_in v.sizes (block_of v.size w.image (a / v.size))) ≡ left.free_bytes (parts_in v.sizes (block_at v (a / v.size))) = ap left.free_bytes edited.parts in omega arith));
        unused = λ k l u. edited.unused k l u ∙ ap (λ (b : List ℕ). slice_index b k) (sym (block-seen c.same (a / v.size)));
      }

  pub write-space : (space : Space) → IsSpaceOf v.size v.sizes v.image space → IsSpaceOf v.size v.sizes w.image space
  write-space space k =
      keeps-space c f.header space k edited.kind
      (λ one below.
      let later : a / v.size ≢ 0 = found.later in
      let old = k.contents (a / v.size) (omega arith) below in
      let bound = old.bound (old.kind_is ∙ one) in
      let e : largest_hole (parts_in v.sizes (block_of v.size w.image (a / v.size))) ≡ largest_hole (parts_in v.sizes (block_at v (a / v.size))) = ap largest_hole edited.parts in omega arith)

-- a block that was brought to hand and edited there has changed
pub changed-by : (v w : VolumeState) (size hand n : ℕ) (image : List ℕ) → w.size ≡ v.size → w.sizes ≡ v.sizes → size ≡ v.size → image ≡ v.image → hand ≡ n
    → ChangesBlock size hand image w.image → HasChanged v w n
changed-by v w size hand n image s z e i h c = record { same = record { size = s; sizes = z }; change = rw (e, i, h) at c }

-- a segment lies in its block
pub segment-within : (v : VolumeState) (a n : ℕ) → IsFormatted v → HasSegment v a n → (8 ≤ a % v.size) × (a % v.size + n ≤ v.size)
segment-within v a n f h =
    let k = find-some v a h.bytes h.is in
    let t = find-there v a n f h in
    let x = f.divided (a / v.size) t in
    let s = segment-some v.sizes (block_at v (a / v.size)) x.extents x.divides x.whole (a % v.size) h.bytes k.segment in
    let u = used-is v.sizes (block_at v (a / v.size)) 8 _ x.extents (a % v.size) (length h.bytes) x.divides s.0 in
    let len = length-block v.size (a / v.size) v.image t.there in
    let within = u.within in
    let long = h.long in
    (u.ahead, omega arith)

-- the code of a segment says its length
pub segment-size : (v : VolumeState) (a n : ℕ) → (f : IsFormatted v) → (h : HasSegment v a n)
    → (size_at v.sizes (block_at v (a / v.size)) (a % v.size) ≡ length h.bytes) × (8 ≤ length h.bytes) × (a % v.size + length h.bytes ≤ v.size)
segment-size v a n f h =
    let k = find-some v a h.bytes h.is in
    let t = find-there v a n f h in
    let x = f.divided (a / v.size) t in
    let s = segment-some v.sizes (block_at v (a / v.size)) x.extents x.divides x.whole (a % v.size) h.bytes k.segment in
    let u = used-is v.sizes (block_at v (a / v.size)) 8 _ x.extents (a % v.size) (length h.bytes) x.divides s.0 in
    let len = length-block v.size (a / v.size) v.image t.there in
    let within = u.within in
    (u.size, u.some, omega arith)

-- ---- freeing

-- a data block that may now have a hole of so many bytes
pub record IsOpened (space : Space) (n hole : ℕ) (new : Space) : Type 0 where
  pub contents : new.contents.items ≡ slice_set space.contents.items n (record { kind = 1; hole = hole })
  pub len : vec_len new.contents ≡ vec_len space.contents
  pub lowest : (c : ℕ) → (slice_index new.lowest.items c ≤ slice_index space.lowest.items c) × (slice_index new.lowest.items c ≤ n)

pub content-own : (space new : Space) (n : ℕ) (x : Content) → new.contents.items ≡ slice_set space.contents.items n x → n < vec_len space.contents → content_at new n ≡ x
content-own space new n x e below =
    let d : Content = record { kind = 0; hole = 0 } in
    let low : n < length space.contents.items = omega (arith, space.contents.ok.0) in
    ap (λ (xs : List Content). slice_index_or xs n d) e ∙ get_or-set_same space.contents.items n x d low

pub content-other : (space new : Space) (n m : ℕ) (x : Content) → new.contents.items ≡ slice_set space.contents.items n x → m ≢ n → content_at new m ≡ content_at space m
content-other space new n m x e other =
    let d : Content = record { kind = 0; hole = 0 } in
    ap (λ (xs : List Content). slice_index_or xs m d) e ∙ get_or-set_other space.contents.items n m x d other

-- what is kept stays true where a data block is opened for holes as long as the largest that it has
pub opened-space : (v w : VolumeState) (n hole : ℕ) (space new : Space) → HasChanged v w n → HasHeader v.size v.image → IsSpaceOf v.size v.sizes v.image space → IsOpened space n hole new
    → new.free ≡ space.free → new.lowest_free ≡ space.lowest_free → n ≢ 0 → kind_of (block_at v n) ≡ 1 → kind_of (block_of v.size w.image n) ≡ 1 → n < blocks_in v.size v.image
    → largest_hole (parts_in v.sizes (block_of v.size w.image n)) ≤ hole → IsSpaceOf v.size v.sizes w.image new
opened-space v w n hole space new c header h o free-is lowest-is later was is below fits =
    let own : kind_of (block_of v.size w.image n) ≡ kind_of (block_at v n) = is ∙ sym was in
    let blocks : blocks_in v.size w.image ≡ blocks_in v.size v.image = ap (λ (k : ℕ). min (k / v.size) 65536) c.change.len in
    let x : Content = record { kind = 1; hole = hole } in
    let low : n < vec_len space.contents = omega (arith, h.len) in
    record {
      len = o.len ∙ h.len ∙ sym blocks;
      contents = λ m some under. elim (cases_eq m n) [
        | inl e ↦ (let P : ℕ → Type 0 = λ i. IsContent v.sizes (block_of v.size w.image i) (content_at new i) in
            let R : Content → Type 0 = λ y. IsContent v.sizes (block_of v.size w.image n) y in
            subst P (sym e) (subst R (sym (content-own space new n x o.contents low)) (record { kind_is = sym is; bound = λ _. fits })))
        | inr other ↦ (let old = h.contents m some (rw blocks at under) in
            let R : Content → Type 0 = λ y. IsContent v.sizes (block_of v.size w.image m) y in
            let S : List ℕ → Type 0 = λ b. IsContent v.sizes b (content_at space m) in
            subst R (sym (content-other space new n m x o.contents other)) (subst S (sym (other-blocks c header m other)) old))
      ];
      lowest = λ k m some under beneath is-data.
          let most = o.lowest k in
          let other : m ≢ n = λ e. omega arith in
          let same = content-other space new n m x o.contents other in
          let kept = h.lowest k m some (omega arith) (rw blocks at beneath) (rw same at is-data) in
          rw same kept;
      free = free-is ∙ h.free ∙ (let e : free_below v.size v.image (blocks_in v.size v.image) ≡ free_below v.size w.image (blocks_in v.size w.image) =
          sym (free-same v.size v.image w.image (blocks_in v.size v.image) (λ m some. keeps-kinds c header own m)) ∙ ap (λ (k : ℕ). free_below v.size w.image k) (sym blocks) in e);
      lowest_free = λ m some under beneath three. h.lowest_free m some (rw lowest-is at under) (rw blocks at beneath) (sym (keeps-kinds c header own m) ∙ three);
    }

-- a block of a formatted volume is one of those that are looked at
pub looked-at : (v : VolumeState) (n : ℕ) → HasHeader v.size v.image → 0 < v.size → HasBlock v.size v.image n → n < blocks_in v.size v.image
looked-at v n h some there =
    let low = whole-block v.size n v.image some there in
    let count : length v.image / v.size ≡ (header_of v.image).count = rw h.whole (mul-div_cancel (header_of v.image).count some) in
    let bound = h.bound in
    let within = h.within in
    omega arith

module _ (v w : VolumeState) (a : ℕ) (f : IsFormatted v) (h : HasSegment v a 0) (least : 44 ≤ v.size)
    (c : HasChanged v w (a / v.size)) (new : IsGiven v.sizes (a % v.size) (length h.bytes) (block_at v (a / v.size)) (block_of v.size w.image (a / v.size))) where
  freed-found : IsFound v a h.bytes
  freed-found = find-some v a h.bytes h.is

  freed-there : IsKind v 1 (a / v.size)
  freed-there = find-there v a 0 f h

  freed-in : IsFreeIn v.sizes (block_at v (a / v.size)) (block_of v.size w.image (a / v.size)) (a % v.size) (length h.bytes)
  freed-in =
      let x = f.divided (a / v.size) freed-there in
      let s = segment-some v.sizes (block_at v (a / v.size)) x.extents x.divides x.whole (a % v.size) h.bytes freed-found.segment in
      free-edits v.sizes (block_at v (a / v.size)) (block_of v.size w.image (a / v.size)) x.extents (a % v.size) (length h.bytes) x.divides x.whole s.0 new

  pub free-frees : IsFreed v a w
  free-frees =
      let later : a / v.size ≢ 0 = freed-found.later in
      let header = keeps-header c f.header least later in
      let some : 0 < v.size = omega arith in
      let is : kind_of (block_of v.size w.image (a / v.size)) ≡ 1 = freed-in.kind ∙ freed-found.kind in
      record {
        formatted = keeps-formatted c f.header f header freed-in.kind (λ _. record { extents = freed-in.extents; divides = freed-in.divides; whole = freed-in.whole });
        gone = find-new v w c.same a later is ∙ freed-in.gone;
        others = keeps-others v w a c f.header some later freed-found.kind is freed-in.others;
        block = c.change;
        kinds = λ n. ap kind_of (block-seen c.same n) ∙ keeps-kinds c f.header freed-in.kind n;
        header = header;
        spares = keeps-spare c f.header header freed-in.kind;
        hole = λ s e.
            let same : s ≡ h.bytes = (let z : Some s ≡ Some h.bytes = sym e ∙ h.is in cc) in
            let on = kind-on c.same 1 (a / v.size) c.change.len freed-in.kind freed-there in
            let P : List ℕ → Type 0 = λ b. length s ≤ largest_hole (parts_in w.sizes b) in
            let Q : List SegmentSize → Type 0 = λ z. length s ≤ largest_hole (parts_in z (block_of v.size w.image (a / v.size))) in
            let R : List ℕ → Type 0 = λ z. length z ≤ largest_hole (parts_in v.sizes (block_of v.size w.image (a / v.size))) in
            record { block = a / v.size; is_data = on; large = subst P (sym (block-seen c.same (a / v.size))) (subst Q (sym c.same.sizes) (subst R (sym same) freed-in.hole)) };
        holes = keeps-holes c f.header freed-in.kind (λ _. freed-in.holes);
        free = keeps-free c.same (a / v.size) (stays-free v.sizes (block_at v (a / v.size)) (block_of v.size w.image (a / v.size))
            (λ p some none. elim (cases_eq p (a % v.size)) [ inl e ↦ some (rw e freed-in.gone) | inr other ↦ some (freed-in.others p other ∙ none) ]) freed-in.free_bytes);
        unused = λ k l u. freed-in.unused k l u ∙ ap (λ (b : List ℕ). slice_index b k) (sym (block-seen c.same (a / v.size)));
      }

  pub free-space : (space new-space : Space) (hole : ℕ) → IsSpaceOf v.size v.sizes v.image space → IsOpened space (a / v.size) hole new-space
      → new-space.free ≡ space.free → new-space.lowest_free ≡ space.lowest_free → hole ≡ v.size → IsSpaceOf v.size v.sizes w.image new-space
  free-space space new-space hole k o free-is lowest-is whole =
      let some : 0 < v.size = omega arith in
      let later = freed-found.later in
      let len = length-block v.size (a / v.size) w.image (let t = freed-there.there in let l = c.change.len in omega arith) in
      let most = freed-in.most in
      opened-space v w (a / v.size) hole space new-space c f.header k o free-is lowest-is later freed-found.kind (freed-in.kind ∙ freed-found.kind) (looked-at v (a / v.size) f.header some freed-there.there) (omega arith)

-- ---- seeking a hole

-- the largest free element of a data block that is looked at is its largest hole
pub seen-hole : (size : ℕ) (sizes : List SegmentSize) (image : List ℕ) (space : Space) (n hole : ℕ) (hand : List ℕ) → IsSpaceOf size sizes image space → AreDivided sizes size image
    → 0 < n → n < blocks_in size image → (content_at space n).kind ≡ 1 → hand ≡ block_of size image n
    → ((f : List SegmentSize) (xs : List Extent) → IsDivided f hand xs → hole ≡ largest_free xs) → hole ≡ largest_hole (parts_in sizes (block_of size image n))
seen-hole size sizes image space n hole hand h divided some below is at found =
    let x = divided n some below (sym (h.contents n some below).kind_is ∙ is) in
    let P : List ℕ → Type 0 = λ b. IsDivided sizes b x.extents in
    found sizes x.extents (subst P (sym at) x.divides) ∙ sym (largest-divided sizes (block_of size image n) x)

-- what is kept stays true where the bound of a data block is made its largest hole
pub mended-space : (size : ℕ) (sizes : List SegmentSize) (image : List ℕ) (space new : Space) (n hole : ℕ) → IsSpaceOf size sizes image space → new.contents.items ≡ slice_set space.contents.items n (record { kind = 1; hole = hole })
    → vec_len new.contents ≡ vec_len space.contents → new.lowest ≡ space.lowest → new.free ≡ space.free → new.lowest_free ≡ space.lowest_free
    → 0 < n → n < blocks_in size image → (content_at space n).kind ≡ 1 → hole ≡ largest_hole (parts_in sizes (block_of size image n)) → IsSpaceOf size sizes image new
mended-space size sizes image space new n hole h contents len lowest free-is lowest-is some below is hole-is =
    let x : Content = record { kind = 1; hole = hole } in
    let low : n < vec_len space.contents = omega (arith, h.len) in
    let old = h.contents n some below in
    let own = content-own space new n x contents low in
    let bound : largest_hole (parts_in sizes (block_of size image n)) ≤ (content_at space n).hole = old.bound is in
    record {
      len = len ∙ h.len;
      contents = λ m more under. elim (cases_eq m n) [
        | inl e ↦ (let P : ℕ → Type 0 = λ i. IsContent sizes (block_of size image i) (content_at new i) in
            let R : Content → Type 0 = λ y. IsContent sizes (block_of size image n) y in
            subst P (sym e) (subst R (sym own) (record { kind_is = sym is ∙ old.kind_is; bound = λ _. omega arith })))
        | inr other ↦ (let R : Content → Type 0 = λ y. IsContent sizes (block_of size image m) y in
            subst R (sym (content-other space new n m x contents other)) (h.contents m more under))
      ];
      lowest = λ k m more under beneath is-data.
          let before : m < slice_index space.lowest.items k = rw lowest at under in
          elim (cases_eq m n) [
            | inl e ↦ (let P : ℕ → Type 0 = λ i. (content_at new i).hole < 8 * k in
                let Q : ℕ → Type 0 = λ i. i < slice_index space.lowest.items k in
                let kept = h.lowest k n some (subst Q e before) below is in
                let R : Content → Type 0 = λ y. y.hole < 8 * k in
                subst P (sym e) (subst R (sym own) (omega arith)))
            | inr other ↦ (let same = content-other space new n m x contents other in rw same (h.lowest k m more before beneath (rw same at is-data)))
          ];
      free = free-is ∙ h.free;
      lowest_free = λ m more under beneath three. h.lowest_free m more (rw lowest-is at under) beneath three;
    }

lowest-set : (xs : List ℕ) (code n c m : ℕ) → m < slice_index (slice_set xs code n) c → ((c ≡ code) × (m < n)) ⊎ (m < slice_index xs c)
lowest-set xs code n c m h =
    elim (cases_eq c code) [
      | inr other ↦ inr (rw (get_or-set_other xs code c n 0 other) at h)
      | inl same ↦ elim (cases_lt code (length xs)) [
        | inl low ↦ (let at : m < slice_index (slice_set xs code n) code = rw same at h in inl (same, rw (get_or-set_same xs code n 0 low) at at))
        | inr past ↦ (let none : slice_index (slice_set xs code n) c ≡ 0 = get_or_past (slice_set xs code n) c 0 (omega (arith, length-set xs code n)) in absurd (omega arith))
      ]
    ]

-- what is kept stays true where the lowest block for a multiple of 8 is made one below which no data block has a hole of so many bytes
pub lowest-space : (size : ℕ) (sizes : List SegmentSize) (image : List ℕ) (space new : Space) (code n : ℕ) → IsSpaceOf size sizes image space → new.contents ≡ space.contents → new.lowest.items ≡ slice_set space.lowest.items code n
    → new.free ≡ space.free → new.lowest_free ≡ space.lowest_free
    → ((m : ℕ) → 0 < m → m < n → m < blocks_in size image → (content_at space m).kind ≡ 1 → (content_at space m).hole < 8 * code) → IsSpaceOf size sizes image new
lowest-space size sizes image space new code n h contents lowest free-is lowest-is passed =
    let same = λ (m : ℕ). (let e : content_at new m ≡ content_at space m = ap (λ v. slice_index_or v.items m (record { kind = 0; hole = 0 })) contents in e) in
    record {
      len = ap (λ v. vec_len v) contents ∙ h.len;
      contents = λ m some below. rw (same m) (h.contents m some below);
      lowest = λ k m some under beneath is-data.
          let is-data' : (content_at space m).kind ≡ 1 = rw (same m) at is-data in
          let kept : (content_at space m).hole < 8 * k = elim (lowest-set space.lowest.items code n k m (rw lowest at under)) [
            | inl e ↦ (let P : ℕ → Type 0 = λ i. (content_at space m).hole < 8 * i in subst P (sym e.0) (passed m some e.1 beneath is-data'))
            | inr before ↦ h.lowest k m some before beneath is-data'
          ] in
          rw (same m) kept;
      free = free-is ∙ h.free;
      lowest_free = λ m some under beneath three. h.lowest_free m some (rw lowest-is at under) beneath three;
    }

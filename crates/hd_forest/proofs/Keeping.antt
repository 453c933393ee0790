-- Steps that leave the blocks of a volume as they are.
use Rattle.std.proofs.Common.{◌≡◌, ◌≢◌, ◌⊎◌, ℕ, ◌+◌, ◌*◌, ◌/◌, ◌<◌, ◌≤◌, List, length, refl, sym, ap, subst, ◌∙◌, arith, inl, inr, Some}
use Rattle.std.proofs.lemmas.Bool.{cases_lt, cases_eq}
use Rattle.std.proofs.lemmas.Nat.{row_fits}
use Rattle.std.proofs.Math.Nat.{mul-le-mul_right}
use Rattle.hd_bytes.specs.Blocks.{block_of, HasBlock}
use Rattle.hd_volume.specs.Images.{ChangesBlock}
use Rattle.hd_volume.specs.Headers.{Header, header_of}
use Rattle.hd_volume.specs.Volumes.{VolumeState, block_at, kind_of, IsKind, IsFormatted, HasKinds}
use Rattle.hd_volume.specs.Rooms.{HasFreeBlock}
use Rattle.hd_volume.specs.Records.{find}
use Rattle.hd_volume.specs.Calls.{KeepsIndex, MayGrow, IsWritten, IsFreed, IsPut, IsRewritten, HasNewHeader}
use Rattle.hd_volume.proofs.MapLemmas.{find-there, kind-there}
use Rattle.hd_volume.proofs.JoinLemmas.{AreOne, one-spare, one-holes, grown-count, counted}
use Rattle.hd_forest.specs.Updates.{KeepsTheRest}
use Rattle.hd_forest.specs.Sets.{KeepsBlocks}

-- the header but for its count and its roots
abbrev pub header_but : Header → Header → Header
header_but old new = record old { count = new.count; first_root = new.first_root; last_root = new.last_root }

-- ---- nothing changes

pub keeps-refl : (v : VolumeState) → KeepsBlocks v v
keeps-refl v = record {
  rest = record { index = λ n is. refl; others = λ n is. is; data_blocks = λ n is. is; header = refl; kinds = λ h. h };
  count = refl;
  spares = refl;
  holes = λ n h. h;
}

-- ---- one step after another

pub rest-trans : {u v w : VolumeState} → IsFormatted v → KeepsTheRest u v → KeepsTheRest v w → KeepsTheRest u w
rest-trans {u} {v} {w} f h k = record {
  index = λ n is. k.index n (back n is) ∙ h.index n is;
  others = λ n is. h.others n (k.others n is);
  data_blocks = λ n is. k.data_blocks n (h.data_blocks n is);
  header = k.header ∙ ap (λ (x : Header). header_but x (header_of w.image)) h.header;
  kinds = λ x. k.kinds (h.kinds x);
}
  where
    back : (n : ℕ) → IsKind u 2 n → IsKind v 2 n
    back n is =
        let kind : kind_of (block_at v n) ≡ 2 = ap kind_of (h.index n is) ∙ is.kind_is in
        record { there = kind-there v.size n (header_of v.image).count 2 v.image f.header.whole (λ e. omega arith) kind; later = is.later; kind_is = kind }

pub keeps-trans : {u v w : VolumeState} → IsFormatted v → KeepsBlocks u v → KeepsBlocks v w → KeepsBlocks u w
keeps-trans f h k = record {
  rest = rest-trans f h.rest k.rest;
  count = k.count ∙ h.count;
  spares = k.spares ∙ h.spares;
  holes = λ n x. k.holes n (h.holes n x);
}

-- ---- a change of one block

-- the same header keeps all but its count and its roots
pub header-kept : (v w : VolumeState) → header_of w.image ≡ header_of v.image → header_of w.image ≡ header_but (header_of v.image) (header_of w.image)
header-kept v w e = e ∙ ap (header_but (header_of v.image)) (sym e)

-- As many blocks of one size, and each behind block 0 is of the kind that it was.
pub record SameKinds (v w : VolumeState) : Type 0 where
  pub size : w.size ≡ v.size
  pub len : length w.image ≡ length v.image
  pub kind : (n : ℕ) → HasBlock v.size v.image n → 0 < n → kind_of (block_at w n) ≡ kind_of (block_at v n)

module _ {v w : VolumeState} (s : SameKinds v w) where
  there-on : (n : ℕ) → HasBlock v.size v.image n → HasBlock w.size w.image n
  there-on n h = let len = s.len in rw s.size (omega arith)

  there-back : (n : ℕ) → HasBlock w.size w.image n → HasBlock v.size v.image n
  there-back n h = let len = s.len in let k : n * v.size + v.size ≤ length w.image = rw s.size at h in omega arith

  pub kind-on : (k n : ℕ) → IsKind v k n → IsKind w k n
  kind-on k n h = record { there = there-on n h.there; later = h.later; kind_is = s.kind n h.there h.later ∙ h.kind_is }

  pub kind-back : (k n : ℕ) → IsKind w k n → IsKind v k n
  kind-back k n h = let t = there-back n h.there in record { there = t; later = h.later; kind_is = sym (s.kind n t h.later) ∙ h.kind_is }

  kinds-kept : HasKinds v → HasKinds w
  kinds-kept h n there later = elim (h n (there-back n there) later) [
    | inl k ↦ inl (kind-on 1 n k)
    | inr (inl k) ↦ inr (inl (kind-on 2 n k))
    | inr (inr k) ↦ inr (inr (kind-on 3 n k))
  ]

  rest-kept : KeepsIndex v w → header_of w.image ≡ header_but (header_of v.image) (header_of w.image) → KeepsTheRest v w
  rest-kept index header = record { index = index; others = λ n is. kind-back 2 n is; data_blocks = λ n is. kind-on 1 n is; header = header; kinds = kinds-kept }

-- another block stays
other-block : (v w : VolumeState) (n m : ℕ) → w.size ≡ v.size → ChangesBlock v.size m v.image w.image → HasBlock v.size v.image n → n ≢ m → block_at w n ≡ block_at v n
other-block v w n m size change there other = ap (λ (z : ℕ). block_of z w.image n) size ∙ change.others n there other

-- the index stays where a data block changes
index-kept : (v w : VolumeState) (m : ℕ) → w.size ≡ v.size → ChangesBlock v.size m v.image w.image → IsKind v 1 m → KeepsIndex v w
index-kept v w m size change own n is = other-block v w n m size change is.there
    (λ e. let one : kind_of (block_at v n) ≡ 1 = ap (λ (k : ℕ). kind_of (block_at v k)) e ∙ own.kind_is in let two = is.kind_is in omega arith)

-- bytes that are written into a segment
pub keeps-written : (v w : VolumeState) (a place : ℕ) (bytes s : List ℕ) → IsFormatted v → w.size ≡ v.size → find v a ≡ Some s → IsWritten v a place bytes w → KeepsBlocks v w
keeps-written v w a place bytes s f size is h =
    let own = find-there v a 0 f (record { bytes = s; is = is; long = omega arith }) in
    let same : SameKinds v w = record { size = size; len = h.block.len; kind = λ n there later. h.kinds n } in
    record {
      rest = rest-kept same (index-kept v w (a / v.size) size h.block own) (header-kept v w h.header);
      count = ap (λ (x : Header). x.count) h.header;
      spares = h.spares;
      holes = h.holes;
    }

-- a segment that is freed
pub keeps-freed : (v w : VolumeState) (a : ℕ) (s : List ℕ) → IsFormatted v → w.size ≡ v.size → find v a ≡ Some s → IsFreed v a w → KeepsBlocks v w
keeps-freed v w a s f size is h =
    let own = find-there v a 0 f (record { bytes = s; is = is; long = omega arith }) in
    let same : SameKinds v w = record { size = size; len = h.block.len; kind = λ n there later. h.kinds n } in
    record {
      rest = rest-kept same (index-kept v w (a / v.size) size h.block own) (header-kept v w h.header);
      count = ap (λ (x : Header). x.count) h.header;
      spares = h.spares;
      holes = h.holes;
    }

-- roots that are set in the header
pub keeps-rooted : (v w : VolumeState) (first last : ℕ) → w.size ≡ v.size → HasNewHeader v (record (header_of v.image) { first_root = first; last_root = last }) w → KeepsBlocks v w
keeps-rooted v w first last size h =
    let other = λ (n : ℕ) (there : HasBlock v.size v.image n) (later : 0 < n). other-block v w n 0 size h.block there (λ e. omega arith) in
    let same : SameKinds v w = record { size = size; len = h.block.len; kind = λ n there later. ap kind_of (other n there later) } in
    record {
      rest = rest-kept same (λ n is. other n is.there is.later) (h.is ∙ ap (header_but (header_of v.image)) (sym h.is));
      count = ap (λ (x : Header). x.count) h.is;
      spares = h.spares;
      holes = h.holes;
    }

-- ---- a segment that is put, or that is put in the place of another

-- Blocks n and k are data blocks now, all others stay, and the volume may have grown by block n.
module _ {v w : VolumeState} {n k : ℕ} (f : IsFormatted v) (g : IsFormatted w) (size : w.size ≡ v.size) (some : 0 < v.size) (one : IsKind w 1 n) (other : IsKind w 1 k)
    (blocks : (m : ℕ) → HasBlock v.size v.image m → 0 < m → m ≢ k → m ≢ n → block_at w m ≡ block_at v m) (grows : MayGrow v n w) where
  whole-new : length w.image ≡ (header_of w.image).count * v.size
  whole-new = g.header.whole ∙ ap (λ (z : ℕ). (header_of w.image).count * z) size

  -- the volume is no shorter
  no-shorter : length v.image ≤ length w.image
  no-shorter = (let more : (header_of v.image).count * v.size ≤ (header_of w.image).count * v.size = mul-le-mul_right v.size (grown-count n grows) in let old = f.header.whole in let new = whole-new in omega arith)

  -- each block but n was there, or is free
  there-before : (m : ℕ) → HasBlock w.size w.image m → m ≢ n → HasBlock v.size v.image m ⊎ IsKind w 3 m
  there-before m there ne = elim (cases_lt m (header_of v.image).count) [
    | inl low ↦
        (let fits : m * v.size + v.size ≤ (header_of v.image).count * v.size = row_fits m v.size (header_of v.image).count v.size low (omega arith) in
        let whole = f.header.whole in inl (omega arith))
    | inr high ↦ inr (grows.passed m high (counted w m g (rw size some) there) ne)
  ]

  stays-on : (i m : ℕ) → m ≢ k → m ≢ n → IsKind v i m → IsKind w i m
  stays-on i m x y is = record {
    there = (let t = is.there in let l = no-shorter in rw size (omega arith));
    later = is.later;
    kind_is = ap kind_of (blocks m is.there is.later x y) ∙ is.kind_is;
  }

  was-before : (i m : ℕ) → i ≢ 3 → m ≢ k → m ≢ n → IsKind w i m → IsKind v i m
  was-before i m kept x y is = elim (there-before m is.there y) [
    | inl t ↦ record { there = t; later = is.later; kind_is = sym (ap kind_of (blocks m t is.later x y)) ∙ is.kind_is }
    | inr three ↦ absurd (kept (sym is.kind_is ∙ three.kind_is))
  ]

  -- a block is one of the two, or it stays
  is-data : (m : ℕ) → IsKind w 1 m ⊎ ((m ≢ k) × (m ≢ n))
  is-data m = elim (cases_eq m n) [
    | inl e ↦ inl (subst (λ (i : ℕ). IsKind w 1 i) (sym e) one)
    | inr y ↦ elim (cases_eq m k) [
      | inl e ↦ inl (subst (λ (i : ℕ). IsKind w 1 i) (sym e) other)
      | inr x ↦ inr (x, y)
    ]
  ]

  stay-kinds : HasKinds v → HasKinds w
  stay-kinds kinds m there later = elim (is-data m) [
    | inl own ↦ inl own
    | inr apart ↦ elim (there-before m there apart.1) [
      | inr free ↦ inr (inr free)
      | inl old ↦ elim (kinds m old later) [
        | inl is ↦ inl (stays-on 1 m apart.0 apart.1 is)
        | inr (inl is) ↦ inr (inl (stays-on 2 m apart.0 apart.1 is))
        | inr (inr is) ↦ inr (inr (stays-on 3 m apart.0 apart.1 is))
      ]
    ]
  ]

  rest-of : KeepsIndex v w → KeepsTheRest v w
  rest-of index = record {
    index = index;
    others = λ m is. elim (is-data m) [
      | inl own ↦ absurd (let first = own.kind_is in let second = is.kind_is in omega arith)
      | inr apart ↦ was-before 2 m (λ e. omega arith) apart.0 apart.1 is
    ];
    data_blocks = λ m is. elim (is-data m) [ inl own ↦ own | inr apart ↦ stays-on 1 m apart.0 apart.1 is ];
    header = grows.header ∙ ap (λ (x : Header). record (header_of v.image) { count = (header_of w.image).count; first_root = x.first_root; last_root = x.last_root }) (sym grows.header);
    kinds = stay-kinds;
  }

-- the volume has grown by two blocks at most
count-grown : {v w : VolumeState} (n : ℕ) → MayGrow v n w → ((header_of v.image).count ≤ (header_of w.image).count) × ((header_of w.image).count ≤ (header_of v.image).count + 2)
count-grown n grows = elim grows.count [ inl e ↦ (omega arith, omega arith) | inr e ↦ (let a = e.0 in let b = e.1 in let c = e.2 in (omega arith, omega arith)) ]

-- the block of a segment is a data block
block-of : (v w : VolumeState) (a : ℕ) (s : List ℕ) → IsFormatted w → w.size ≡ v.size → find w a ≡ Some s → IsKind w 1 (a / v.size)
block-of v w a s g size is = subst (λ (z : ℕ). IsKind w 1 (a / z)) size (find-there w a 0 g (record { bytes = s; is = is; long = omega arith }))

module _ {v w : VolumeState} {a : ℕ} {s : List ℕ} (f : IsFormatted v) (size : w.size ≡ v.size) (some : 0 < v.size) (h : IsPut v a s w) where
  pub rest-put : KeepsTheRest v w
  rest-put =
      let own = block-of v w a s h.formatted size h.is in
      rest-of f h.formatted size some own own (λ m there later x y. h.blocks m there later y) h.grows h.index

  pub count-put : ((header_of v.image).count ≤ (header_of w.image).count) × ((header_of w.image).count ≤ (header_of v.image).count + 2)
  count-put = count-grown (a / v.size) h.grows

module _ {v w : VolumeState} {a to : ℕ} {s : List ℕ} (f : IsFormatted v) (size : w.size ≡ v.size) (some : 0 < v.size) (h : IsRewritten v a to s w) where
  pub rest-rewritten : KeepsTheRest v w
  rest-rewritten = rest-of f h.formatted size some (block-of v w to s h.formatted size h.is) h.data_block h.blocks h.grows h.index

  pub count-rewritten : ((header_of v.image).count ≤ (header_of w.image).count) × ((header_of w.image).count ≤ (header_of v.image).count + 2)
  count-rewritten = count-grown (to / v.size) h.grows

-- ---- a call that reads

-- two states of a volume with one image
pub keeps-same : (u v : VolumeState) → v.image ≡ u.image → v.size ≡ u.size → v.sizes ≡ u.sizes → KeepsBlocks u v
keeps-same u v image size sizes =
    let blocks : (n : ℕ) → block_at v n ≡ block_at u n = λ n i. block_of (size i) (image i) n in
    let one : AreOne u v = record { same = record { size = size; sizes = sizes }; image = image } in
    let same : SameKinds u v = record { size = size; len = ap length image; kind = λ n there later. ap kind_of (blocks n) } in
    record {
      rest = rest-kept same (λ n is. blocks n) (header-kept u v (ap header_of image));
      count = ap (λ (i : List ℕ). (header_of i).count) image;
      spares = one-spare one;
      holes = one-holes one;
    }

-- a block that was free is so
pub free-seen : (u v : VolumeState) → v.image ≡ u.image → v.size ≡ u.size → HasFreeBlock u → HasFreeBlock v
free-seen u v image size free =
    let same : SameKinds u v = record { size = size; len = ap length image; kind = λ n there later i. kind_of (block_of (size i) (image i) n) } in
    (free.0, kind-on same 3 free.0 free.1)

-- A block of a volume that becomes one of another kind.
use Rattle.std.proofs.Common.{◌≡◌, ◌≢◌, inl, inr, ℕ, zero, suc, ◌+◌, ◌-◌, ◌*◌, ◌/◌, ◌%◌, ◌<◌, ◌≤◌, Bool, true, false, not, ◌&&◌, ◌==◌, min, max, List, [], ◌∷◌, length, slice_index, slice_set, vec_len, None, refl, sym, ap, ◌∙◌, arith, ne_eqb, subst}
use Rattle.std.proofs.lemmas.Bool.{cases_eq, eq-eqb}
use Rattle.hd_bytes.specs.Blocks.{block_of, HasBlock}
use Rattle.std.proofs.Math.Nat.{mul-div_cancel}
use Rattle.hd_bytes.specs.Numbers.{number_at}
use Rattle.hd_bytes.specs.Ranges.{with_bytes}
use Rattle.hd_bytes.proofs.BlockLemmas.{length-block}
use Rattle.hd_bytes.proofs.NumberLemmas.{length-with, changes-with}
use Rattle.hd_block.specs.Extents.{free, IsDivided}
use Rattle.hd_block.proofs.PartLemmas.{parts-divided}
use Rattle.hd_block.specs.Walk.{parts_in}
use Rattle.hd_volume.specs.Steps.{data_head}
use Rattle.hd_volume.proofs.SpaceLemmas.{whole-block}
use Rattle.hd_volume.proofs.ExtentLemmas.{segment-none}
use Rattle.hd_volume.specs.declared.space.Space.{Space}
use Rattle.hd_volume.specs.declared.space.Content.{Content}
use Rattle.hd_volume.specs.Headers.{Header, header_of, HasHeader}
use Rattle.hd_volume.specs.Volumes.{VolumeState, block_at, kind_of, IsKind, HasExtents, IsFormatted}
use Rattle.hd_volume.specs.Records.{segment_in, find}
use Rattle.hd_volume.specs.Rooms.{spare, is_free, one_if, free_below, largest_hole}
use Rattle.hd_volume.specs.Spaces.{blocks_in, content_at, IsContent, IsSpaceOf}
use Rattle.hd_volume.specs.Calls.{KeepsHoles, KeepsSegments, AreZero}
use Rattle.hd_volume.specs.Steps as step
use Rattle.hd_volume.specs.Calls as call
use Rattle.hd_volume.proofs.EditLemmas.{put-byte}
use Rattle.hd_volume.proofs.FrameLemmas.{HasChanged, block-seen, kind-back, kind-on, other-blocks, other-segments, keeps-header, has-header, keeps-space}
use Rattle.hd_volume.proofs.CallLemmas.{find-new, looked-at, content-own, content-other}
use Rattle.hd_dbd.specs.declared.facts.SegmentSize.{SegmentSize}

-- ---- counting free blocks

free-kept : (size : ℕ) (a b : List ℕ) (n N : ℕ) → N ≤ n → ((m : ℕ) → m ≢ n → kind_of (block_of size b m) ≡ kind_of (block_of size a m)) → free_below size b N ≡ free_below size a N
free-kept size a b n zero low h = refl
free-kept size a b n (suc N) low h =
    let one : is_free size b N ≡ is_free size a N = ap (λ (k : ℕ). not (N == 0) && k == 3) (h N (λ e. omega arith)) in
    rw (free-kept size a b n N (omega arith) h, one) refl

-- one block alone may have become free, or have ceased to be so
pub free-changed : (size : ℕ) (a b : List ℕ) (n N : ℕ) → n < N → ((m : ℕ) → m ≢ n → kind_of (block_of size b m) ≡ kind_of (block_of size a m))
    → free_below size b N + one_if (is_free size a n) ≡ free_below size a N + one_if (is_free size b n)
free-changed size a b n zero low h = absurd (omega arith)
free-changed size a b n (suc N) low h =
    elim (cases_eq N n) [
      | inl e ↦
          (let before = free-kept size a b n N (omega arith) h in
          let P : ℕ → Type 0 = λ i. free_below size b N + one_if (is_free size b i) + one_if (is_free size a n) ≡ free_below size a N + one_if (is_free size a i) + one_if (is_free size b n) in
          subst P (sym e) (omega arith))
      | inr other ↦
          (let rest = free-changed size a b n N (omega arith) h in
          let one : is_free size b N ≡ is_free size a N = ap (λ (k : ℕ). not (N == 0) && k == 3) (h N other) in
          let same : one_if (is_free size b N) ≡ one_if (is_free size a N) = ap one_if one in
          omega arith)
    ]

pub is-free : (size : ℕ) (a : List ℕ) (n : ℕ) → n ≢ 0 → kind_of (block_of size a n) ≡ 3 → one_if (is_free size a n) ≡ 1
is-free size a n some is = rw (ne_eqb n 0 some, eq-eqb (kind_of (block_of size a n)) 3 is) refl

pub not-free : (size : ℕ) (a : List ℕ) (n : ℕ) → kind_of (block_of size a n) ≢ 3 → one_if (is_free size a n) ≡ 0
not-free size a n is = (let e : is_free size a n ≡ false = rw (ne_eqb (kind_of (block_of size a n)) 3 is) (and-false (not (n == 0))) in ap one_if e)
  where
    and-false : (t : Bool) → (t && false) ≡ false
    and-false true = refl
    and-false false = refl

-- where some block is free, the number is not 0
pub some-free : (size : ℕ) (a : List ℕ) (n N : ℕ) → n < N → n ≢ 0 → kind_of (block_of size a n) ≡ 3 → 0 < free_below size a N
some-free size a n zero low some is = absurd (omega arith)
some-free size a n (suc N) low some is =
    elim (cases_eq N n) [
      | inl e ↦ (let one = is-free size a n some is in
          let P : ℕ → Type 0 = λ i. 0 < free_below size a N + one_if (is_free size a i) in subst P (sym e) (omega arith))
      | inr other ↦ (let rest = some-free size a n N (omega arith) some is in omega arith)
    ]

-- where none is, it is 0
pub none-free : (size : ℕ) (a : List ℕ) (N : ℕ) → ((m : ℕ) → m ≢ 0 → m < N → kind_of (block_of size a m) ≡ 3 → ⊥) → free_below size a N ≡ 0
none-free size a zero h = refl
none-free size a (suc N) h =
    let one : one_if (is_free size a N) ≡ 0 = elim (cases_eq N 0) [
      | inl z ↦ (let e : is_free size a N ≡ false = rw (eq-eqb N 0 z) refl in ap one_if e)
      | inr some ↦ not-free size a N (λ is. h N some (omega arith) is)
    ] in
    let rest = none-free size a N (λ m some low. h m some (omega arith)) in
    omega arith

-- ---- a block that was not for data

module _ {v w : VolumeState} {n : ℕ} (c : HasChanged v w n) (f : IsFormatted v) (was : kind_of (block_at v n) ≢ 1) where
  -- the volume stays formatted, if the block is divided where it is now for data
  pub made-formatted : header_of w.image ≡ header_of v.image → (kind_of (block_of v.size w.image n) ≡ 1 → HasExtents v.sizes (block_of v.size w.image n)) → IsFormatted w
  made-formatted same extents = record {
    header = has-header c f.header same;
    divided = λ m k.
        let P : List ℕ → Type 0 = λ b. HasExtents w.sizes b in
        let Q : List SegmentSize → Type 0 = λ z. HasExtents z (block_of v.size w.image m) in
        let kind : kind_of (block_of v.size w.image m) ≡ 1 = ap kind_of (sym (block-seen c.same m)) ∙ k.kind_is in
        subst P (sym (block-seen c.same m)) (subst Q (sym c.same.sizes)
        (elim (cases_eq m n) [
          | inl e ↦ (let R : ℕ → Type 0 = λ i. HasExtents v.sizes (block_of v.size w.image i) in
              subst R (sym e) (extents (ap (λ (i : ℕ). kind_of (block_of v.size w.image i)) (sym e) ∙ kind)))
          | inr other ↦ (let R : List ℕ → Type 0 = λ b. HasExtents v.sizes b in
              let own : kind_of (block_of v.size w.image m) ≡ kind_of (block_at v m) = ap kind_of (other-blocks c f.header m other) in
              subst R (sym (other-blocks c f.header m other)) (f.divided m (kind-back c.same 1 m c.change.len own k)))
        ]));
  }

  -- and all segments stay, if there is none in the block
  pub made-segments : (kind_of (block_of v.size w.image n) ≡ 1 → (p : ℕ) → segment_in v.sizes (block_of v.size w.image n) p ≡ None) → KeepsSegments v w
  made-segments none a =
      elim (cases_eq (a / v.size) n) [
        | inr other ↦ other-segments c f.header a other
        | inl here ↦ elim (cases_eq (a / v.size) 0) [
          | inl z ↦ first z
          | inr some ↦
              (let before : find v a ≡ None = gone v a some (λ e. was (ap (λ (i : ℕ). kind_of (block_at v i)) (sym here) ∙ e)) in
              elim (cases_eq (kind_of (block_of v.size w.image (a / v.size))) 1) [
                | inl is ↦ find-new v w c.same a some is ∙ (let P : ℕ → Type 0 = λ i. segment_in v.sizes (block_of v.size w.image i) (a % v.size) ≡ None in
                    subst P (sym here) (none (ap (λ (i : ℕ). kind_of (block_of v.size w.image i)) (sym here) ∙ is) (a % v.size))) ∙ sym before
                | inr isnt ↦ (let after : find w a ≡ None = rw (c.same.size, c.same.sizes, ne_eqb (a / v.size) 0 some, ne_eqb (kind_of (block_of v.size w.image (a / v.size))) 1 isnt) refl in after ∙ sym before)
              ])
        ]
      ]
    where
      gone : (u : VolumeState) (b : ℕ) → b / u.size ≢ 0 → kind_of (block_at u (b / u.size)) ≢ 1 → find u b ≡ None
      gone u b some isnt = rw (ne_eqb (b / u.size) 0 some, ne_eqb (kind_of (block_at u (b / u.size))) 1 isnt) refl

      first : a / v.size ≡ 0 → find w a ≡ find v a
      first z = rw (c.same.size, c.same.sizes, eq-eqb (a / v.size) 0 z) refl

  pub made-holes : KeepsHoles v w
  made-holes k h =
      let m : ℕ = h.block in
      let other : m ≢ n = λ e. was (ap (λ (i : ℕ). kind_of (block_at v i)) (sym e) ∙ h.is_data.kind_is) in
      let same = other-blocks c f.header m other in
      let P : List ℕ → Type 0 = λ b. k ≤ largest_hole (parts_in w.sizes b) in
      let Q : List SegmentSize → Type 0 = λ z. k ≤ largest_hole (parts_in z (block_of v.size w.image m)) in
      let R : List ℕ → Type 0 = λ b. k ≤ largest_hole (parts_in v.sizes b) in
      record {
        block = m;
        is_data = kind-on c.same 1 m c.change.len (ap kind_of same) h.is_data;
        large = subst P (sym (block-seen c.same m)) (subst Q (sym c.same.sizes) (subst R (sym same) h.large));
      }

  -- the blocks to spare, where the block was free or is so now
  pub made-spare : header_of w.image ≡ header_of v.image → n < (header_of v.image).count → spare w + one_if (is_free v.size v.image n) ≡ spare v + one_if (is_free v.size w.image n)
  made-spare same low =
      let count : (header_of w.image).count ≡ (header_of v.image).count = ap (λ (h : Header). h.count) same in
      let largest : (header_of w.image).largest ≡ (header_of v.image).largest = ap (λ (h : Header). h.largest) same in
      let free = free-changed v.size v.image w.image n (header_of v.image).count low (λ m other. ap kind_of (other-blocks c f.header m other)) in
      let all : spare w ≡ (header_of v.image).largest - (header_of v.image).count + free_below v.size w.image (header_of v.image).count = rw (count, largest, c.same.size) refl in
      omega arith

-- ---- what is kept

-- what is kept stays true where another content of the block is noted
pub made-space : (v w : VolumeState) (n : ℕ) (space new : Space) (x : Content) → HasChanged v w n → HasHeader v.size v.image → IsSpaceOf v.size v.sizes v.image space → n ≢ 0 → n < blocks_in v.size v.image
    → new.contents.items ≡ slice_set space.contents.items n x → vec_len new.contents ≡ vec_len space.contents → IsContent v.sizes (block_of v.size w.image n) x
    → ((c : ℕ) → slice_index new.lowest.items c ≤ slice_index space.lowest.items c) → (x.kind ≡ 1 → (c : ℕ) → slice_index new.lowest.items c ≤ n)
    → new.free + one_if (is_free v.size v.image n) ≡ space.free + one_if (is_free v.size w.image n)
    → new.lowest_free ≤ space.lowest_free → (kind_of (block_of v.size w.image n) ≡ 3 → new.lowest_free ≤ n) → IsSpaceOf v.size v.sizes w.image new
made-space v w n space new x c header h some below contents len own lower opened balance lowest_free given =
    let blocks : blocks_in v.size w.image ≡ blocks_in v.size v.image = ap (λ (k : ℕ). min (k / v.size) 65536) c.change.len in
    let low : n < vec_len space.contents = omega (arith, h.len) in
    let mine = content-own space new n x contents low in
    record {
      len = len ∙ h.len ∙ sym blocks;
      contents = λ m more under. elim (cases_eq m n) [
        | inl e ↦ (let P : ℕ → Type 0 = λ i. IsContent v.sizes (block_of v.size w.image i) (content_at new i) in
            let R : Content → Type 0 = λ y. IsContent v.sizes (block_of v.size w.image n) y in
            subst P (sym e) (subst R (sym mine) own))
        | inr other ↦ (let old = h.contents m more (rw blocks at under) in
            let R : Content → Type 0 = λ y. IsContent v.sizes (block_of v.size w.image m) y in
            let S : List ℕ → Type 0 = λ b. IsContent v.sizes b (content_at space m) in
            subst R (sym (content-other space new n m x contents other)) (subst S (sym (other-blocks c header m other)) old))
      ];
      lowest = λ k m more under beneath is-data.
          let less = lower k in
          elim (cases_eq m n) [
            | inl e ↦ (let P : ℕ → Type 0 = λ i. (content_at new i).kind ≡ 1 in
                let one : x.kind ≡ 1 = ap (λ (y : Content). y.kind) (sym mine) ∙ subst P e is-data in
                let most = opened one k in absurd (omega arith))
            | inr other ↦ (let same = content-other space new n m x contents other in
                let kept = h.lowest k m more (omega arith) (rw blocks at beneath) (rw same at is-data) in rw same kept)
          ];
      free =
          let count = free-changed v.size v.image w.image n (blocks_in v.size v.image) below (λ m other. ap kind_of (other-blocks c header m other)) in
          let before = h.free in
          let e : free_below v.size w.image (blocks_in v.size v.image) ≡ free_below v.size w.image (blocks_in v.size w.image) = ap (λ (k : ℕ). free_below v.size w.image k) (sym blocks) in
          omega arith;
      lowest_free = λ m more under beneath three. elim (cases_eq m n) [
        | inl e ↦ (let P : ℕ → Type 0 = λ i. kind_of (block_of v.size w.image i) ≡ 3 in let most = given (subst P e three) in omega arith)
        | inr other ↦ h.lowest_free m more (omega arith) (rw blocks at beneath) (ap kind_of (sym (other-blocks c header m other)) ∙ three)
      ];
    }

-- a block of a formatted volume is counted
pub below-count : (v : VolumeState) (n : ℕ) → HasHeader v.size v.image → 0 < v.size → HasBlock v.size v.image n → n < (header_of v.image).count
below-count v n h some there =
    let low = whole-block v.size n v.image some there in
    let count : length v.image / v.size ≡ (header_of v.image).count = rw h.whole (mul-div_cancel (header_of v.image).count some) in
    omega arith

-- ---- a data block with one hole

fresh-number : (b : List ℕ) (high low : ℕ) → (number_at 2 (with_bytes b 0 (data_head high low)) 0 ≡ 8) × (number_at 2 (with_bytes b 0 (data_head high low)) 10 ≡ high * 256 + low)
    × (number_at 4 (with_bytes b 0 (data_head high low)) 12 ≡ 0) × (number_at 2 (with_bytes b 0 (data_head high low)) 8 ≡ 0)
unfolding number_at
fresh-number b high low = (refl, omega arith, refl, refl)

-- the bytes behind the kind of a fresh block
fresh-zeros : (b : List ℕ) (high low k : ℕ) → 3 ≤ k → k < 8 → slice_index (with_bytes b 0 (data_head high low)) k ≡ 0
fresh-zeros b high low zero l u = absurd (omega arith)
fresh-zeros b high low (suc zero) l u = absurd (omega arith)
fresh-zeros b high low (suc (suc zero)) l u = absurd (omega arith)
fresh-zeros b high low (suc (suc (suc zero))) l u = refl
fresh-zeros b high low (suc (suc (suc (suc zero)))) l u = refl
fresh-zeros b high low (suc (suc (suc (suc (suc zero))))) l u = refl
fresh-zeros b high low (suc (suc (suc (suc (suc (suc zero)))))) l u = refl
fresh-zeros b high low (suc (suc (suc (suc (suc (suc (suc zero))))))) l u = refl
fresh-zeros b high low (suc (suc (suc (suc (suc (suc (suc (suc k)))))))) l u = absurd (omega arith)

pub fresh-divides : (sizes : List SegmentSize) (b : List ℕ) (size high low : ℕ) → length b ≡ size → 128 ≤ size → size % 8 ≡ 0 → high * 256 + low ≡ size - 8
    → IsDivided sizes (with_bytes b 0 (data_head high low)) (free (size - 8) ∷ [])
fresh-divides sizes b size high low len least whole is =
    let b' : List ℕ = with_bytes b 0 (data_head high low) in
    let k = fresh-number b high low in
    let long = length-with b (data_head high low) 0 (omega arith) in
    let next = k.3 in
    (sym k.0, record { element = record { len = k.1 ∙ is; task = k.2; some = omega arith; whole = omega arith }; apart = λ e. omega arith }, (omega arith, next))

module _ (v w : VolumeState) (n high low : ℕ) (f : IsFormatted v) (free-is : IsKind v 3 n) (least : 128 ≤ v.size) (eighths : v.size % 8 ≡ 0)
    (c : HasChanged v w n) (new : block_of v.size w.image n ≡ with_bytes (block_at v n) 0 (data_head high low)) (size-is : high * 256 + low ≡ v.size - 8) where
  data-divides : IsDivided v.sizes (block_of v.size w.image n) (free (v.size - 8) ∷ [])
  data-divides =
      let P : List ℕ → Type 0 = λ b. IsDivided v.sizes b (free (v.size - 8) ∷ []) in
      subst P (sym new) (fresh-divides v.sizes (block_at v n) v.size high low (length-block v.size n v.image free-is.there) least eighths size-is)

  data-kind : kind_of (block_of v.size w.image n) ≡ 1
  data-kind = ap kind_of new

  data-large : largest_hole (parts_in v.sizes (block_of v.size w.image n)) ≡ v.size - 8
  data-large = ap largest_hole (parts-divided v.sizes (block_of v.size w.image n) (free (v.size - 8) ∷ []) data-divides tt) ∙ (let e : max (v.size - 8) 0 ≡ v.size - 8 = omega arith in e)

  data-later : n ≢ 0
  data-later = (let l = free-is.later in λ e. omega arith)

  data-was : kind_of (block_at v n) ≢ 1
  data-was = (let k = free-is.kind_is in λ e. omega arith)

  data-is : IsKind w 1 n
  data-is = record {
    there = (let t = free-is.there in let l = c.change.len in rw c.same.size (omega arith));
    later = free-is.later;
    kind_is = ap kind_of (block-seen c.same n) ∙ data-kind;
  }

  pub data-made : step.IsMade v n 1 w
  data-made =
      let header = keeps-header c f.header (omega arith) data-later in
      let some : 0 < v.size = omega arith in
      record {
        formatted = made-formatted c f data-was header (λ _. record { extents = free (v.size - 8) ∷ []; divides = data-divides; whole = tt });
        is = data-is;
        block = c.change;
        header = header;
        segments = made-segments c f data-was (λ _ p. segment-none v.sizes (block_of v.size w.image n) (free (v.size - 8) ∷ []) data-divides tt p (λ k u. u));
        spares =
            let s = made-spare c f data-was header (below-count v n f.header some free-is.there) in
            let one = is-free v.size v.image n data-later free-is.kind_is in
            let none = not-free v.size w.image n (let k = data-kind in λ e. omega arith) in
            omega arith;
        holes = made-holes c f data-was;
      }

  -- bytes 3 to 7 of it are 0
  pub data-unused : AreZero 3 5 (block_at w n)
  data-unused k l u =
      let zeros : slice_index (with_bytes (block_at v n) 0 (data_head high low)) k ≡ 0 = fresh-zeros (block_at v n) high low k l u in
      ap (λ (b : List ℕ). slice_index b k) (block-seen c.same n ∙ new) ∙ zeros

  -- no segment stands in it
  pub data-none : step.HasNone w.sizes (block_at w n)
  data-none =
      let P : List ℕ → Type 0 = λ b. step.HasNone w.sizes b in
      let Q : List SegmentSize → Type 0 = λ z. step.HasNone z (block_of v.size w.image n) in
      subst P (sym (block-seen c.same n)) (subst Q (sym c.same.sizes) (λ p. segment-none v.sizes (block_of v.size w.image n) (free (v.size - 8) ∷ []) data-divides tt p (λ k u. u)))

  pub data-room : step.HasRoom w n (v.size - 8)
  data-room =
      let P : List ℕ → Type 0 = λ b. v.size - 8 ≤ largest_hole (parts_in w.sizes b) in
      let Q : List SegmentSize → Type 0 = λ z. v.size - 8 ≤ largest_hole (parts_in z (block_of v.size w.image n)) in
      let large = data-large in
      record { is_data = data-is; large = subst P (sym (block-seen c.same n)) (subst Q (sym c.same.sizes) (omega arith)) }

  pub data-space : (space new-space : Space) (hole : ℕ) → IsSpaceOf v.size v.sizes v.image space → hole ≡ v.size - 8
      → new-space.contents.items ≡ slice_set space.contents.items n (record { kind = 1; hole = hole }) → vec_len new-space.contents ≡ vec_len space.contents
      → ((k : ℕ) → slice_index new-space.lowest.items k ≤ slice_index space.lowest.items k) → ((k : ℕ) → slice_index new-space.lowest.items k ≤ n)
      → new-space.free ≡ space.free - 1 → new-space.lowest_free ≡ space.lowest_free → IsSpaceOf v.size v.sizes w.image new-space
  data-space space new-space hole h hole-is contents len lower opened free-less lowest-is =
      let some : 0 < v.size = omega arith in
      let below = looked-at v n f.header some free-is.there in
      let one = is-free v.size v.image n data-later free-is.kind_is in
      let none = not-free v.size w.image n (let k = data-kind in λ e. omega arith) in
      let kind = data-kind in
      let positive = some-free v.size v.image n (blocks_in v.size v.image) below data-later free-is.kind_is in
      let count = h.free in
      let large = data-large in
      made-space v w n space new-space (record { kind = 1; hole = hole }) c f.header h data-later below contents len
      (record { kind_is = sym data-kind; bound = λ _. omega arith }) lower (λ _. opened) (omega arith) (omega arith) (λ three. absurd (omega arith))

-- ---- a block that is for data neither before nor after

module _ (v w : VolumeState) (n k k' : ℕ) (f : IsFormatted v) (was : IsKind v k n) (other : k ≢ 1) (other' : k' ≢ 1) (least : 44 ≤ v.size)
    (c : HasChanged v w n) (now : kind_of (block_of v.size w.image n) ≡ k') where
  plain-was : kind_of (block_at v n) ≢ 1
  plain-was = λ e. other (sym was.kind_is ∙ e)

  plain-later : n ≢ 0
  plain-later = (let l = was.later in λ e. omega arith)

  pub plain-header : header_of w.image ≡ header_of v.image
  plain-header = keeps-header c f.header least plain-later

  pub plain-formatted : IsFormatted w
  plain-formatted = made-formatted c f plain-was plain-header (λ e. absurd (other' (sym now ∙ e)))

  pub plain-segments : KeepsSegments v w
  plain-segments = made-segments c f plain-was (λ e. absurd (other' (sym now ∙ e)))

  pub plain-holes : KeepsHoles v w
  plain-holes = made-holes c f plain-was

  pub plain-is : IsKind w k' n
  plain-is = record {
    there = (let t = was.there in let l = c.change.len in rw c.same.size (omega arith));
    later = was.later;
    kind_is = ap kind_of (block-seen c.same n) ∙ now;
  }

  pub plain-spare : spare w + one_if (is_free v.size v.image n) ≡ spare v + one_if (is_free v.size w.image n)
  plain-spare = (let some : 0 < v.size = omega arith in made-spare c f plain-was plain-header (below-count v n f.header some was.there))

  pub plain-space : (space new : Space) (x : Content) → IsSpaceOf v.size v.sizes v.image space → x.kind ≡ k'
      → new.contents.items ≡ slice_set space.contents.items n x → vec_len new.contents ≡ vec_len space.contents
      → ((m : ℕ) → slice_index new.lowest.items m ≤ slice_index space.lowest.items m)
      → new.free + one_if (is_free v.size v.image n) ≡ space.free + one_if (is_free v.size w.image n)
      → new.lowest_free ≤ space.lowest_free → (k' ≡ 3 → new.lowest_free ≤ n) → IsSpaceOf v.size v.sizes w.image new
  plain-space space new x h x-is contents len lower balance lowest given =
      let some : 0 < v.size = omega arith in
      made-space v w n space new x c f.header h plain-later (looked-at v n f.header some was.there) contents len
      (record { kind_is = x-is ∙ sym now; bound = λ e. absurd (other' (sym x-is ∙ e)) }) lower (λ e. absurd (other' (sym x-is ∙ e))) balance lowest (λ e. given (sym now ∙ e))

-- ---- an index block

two-one : ◌≢◌ {A = ℕ} 2 1
two-one e = omega arith

three-one : ◌≢◌ {A = ℕ} 3 1
three-one e = omega arith

zeros-none : (k : ℕ) → slice_index [] k ≡ 0
zeros-none k = refl

zeros-more : (xs : List ℕ) → ((k : ℕ) → slice_index xs k ≡ 0) → (k : ℕ) → slice_index (0 ∷ xs) k ≡ 0
zeros-more xs h zero = refl
zeros-more xs h (suc k) = h k

eight-zeros : (k : ℕ) → slice_index (0 ∷ 0 ∷ 0 ∷ 0 ∷ 0 ∷ 0 ∷ 0 ∷ 0 ∷ []) k ≡ 0
eight-zeros = zeros-more (0 ∷ 0 ∷ 0 ∷ 0 ∷ 0 ∷ 0 ∷ 0 ∷ []) (zeros-more (0 ∷ 0 ∷ 0 ∷ 0 ∷ 0 ∷ 0 ∷ []) (zeros-more (0 ∷ 0 ∷ 0 ∷ 0 ∷ 0 ∷ []) (zeros-more (0 ∷ 0 ∷ 0 ∷ 0 ∷ []) (zeros-more (0 ∷ 0 ∷ 0 ∷ []) (zeros-more (0 ∷ 0 ∷ []) (zeros-more (0 ∷ []) (zeros-more [] zeros-none)))))))

head-zeros : (level k : ℕ) → 4 ≤ k → slice_index (0 ∷ 0 ∷ 2 ∷ level ∷ 0 ∷ 0 ∷ 0 ∷ 0 ∷ 0 ∷ 0 ∷ 0 ∷ 0 ∷ []) k ≡ 0
head-zeros level zero h = absurd (omega arith)
head-zeros level (suc zero) h = absurd (omega arith)
head-zeros level (suc (suc zero)) h = absurd (omega arith)
head-zeros level (suc (suc (suc zero))) h = absurd (omega arith)
head-zeros level (suc (suc (suc (suc k)))) h = eight-zeros k

abbrev pub index_head : ℕ → List ℕ
index_head level = 0 ∷ 0 ∷ 2 ∷ level ∷ 0 ∷ 0 ∷ 0 ∷ 0 ∷ 0 ∷ 0 ∷ 0 ∷ 0 ∷ []

module _ (v w : VolumeState) (n level : ℕ) (f : IsFormatted v) (was : IsKind v 3 n) (least : 128 ≤ v.size) (c : HasChanged v w n)
    (new : block_of v.size w.image n ≡ with_bytes (block_at v n) 0 (index_head level)) where
  pub index-made : step.IsMadeIndex v n level w
  index-made =
      let now : kind_of (block_of v.size w.image n) ≡ 2 = ap kind_of new in
      let three = three-one in
      let two = two-one in
      let low : 44 ≤ v.size = omega arith in
      let seen = block-seen c.same n in
      let long = length-block v.size n v.image was.there in
      record {
        made = record {
          formatted = plain-formatted v w n 3 2 f was three two low c now;
          is = plain-is v w n 3 2 f was three two low c now;
          block = c.change;
          header = plain-header v w n 3 2 f was three two low c now;
          segments = plain-segments v w n 3 2 f was three two low c now;
          spares =
              (let s = plain-spare v w n 3 2 f was three two low c now in
              let one = is-free v.size v.image n (let l = was.later in λ e. omega arith) was.kind_is in
              let none = not-free v.size w.image n (λ e. omega arith) in omega arith);
          holes = plain-holes v w n 3 2 f was three two low c now;
        };
        level_is = ap (λ (b : List ℕ). slice_index b 3) (seen ∙ new);
        empty = λ k h l.
            ap (λ (b : List ℕ). slice_index b k) (seen ∙ new) ∙ ap (λ (i : ℕ). slice_index (with_bytes (block_at v n) 0 (index_head level)) i) (let e : k ≡ 0 + k = omega arith in e)
            ∙ put-byte (block_at v n) (index_head level) 0 k (omega arith) l ∙ head-zeros level k h;
      }

  pub index-space : (space new-space : Space) → IsSpaceOf v.size v.sizes v.image space
      → new-space.contents.items ≡ slice_set space.contents.items n (record { kind = 2; hole = 0 }) → vec_len new-space.contents ≡ vec_len space.contents
      → ((m : ℕ) → slice_index new-space.lowest.items m ≤ slice_index space.lowest.items m) → new-space.free ≡ space.free - 1 → new-space.lowest_free ≡ space.lowest_free
      → IsSpaceOf v.size v.sizes w.image new-space
  index-space space new-space h contents len lower less lowest =
      let now : kind_of (block_of v.size w.image n) ≡ 2 = ap kind_of new in
      let some : 0 < v.size = omega arith in
      let later : n ≢ 0 = (let l = was.later in λ e. omega arith) in
      let one = is-free v.size v.image n later was.kind_is in
      let none = not-free v.size w.image n (λ e. omega arith) in
      let positive = some-free v.size v.image n (blocks_in v.size v.image) (looked-at v n f.header some was.there) later was.kind_is in
      let count = h.free in
      plain-space v w n 3 2 f was three-one two-one (omega arith) c now space new-space (record { kind = 2; hole = 0 }) h refl contents len lower (omega arith) (omega arith) (λ e. absurd (omega arith))

module _ (v w : VolumeState) (n : ℕ) (f : IsFormatted v) (was : IsKind v 2 n) (least : 128 ≤ v.size) (c : HasChanged v w n)
    (new : block_of v.size w.image n ≡ with_bytes (block_at v n) 2 (3 ∷ [])) where
  given-kind : kind_of (block_of v.size w.image n) ≡ 3
  given-kind = (let long = length-block v.size n v.image was.there in ap kind_of new ∙ put-byte (block_at v n) (3 ∷ []) 2 0 (omega arith) (omega arith))

  pub block-given : call.IsGivenBlock v n w
  block-given =
      let two = two-one in
      let three = three-one in
      let low : 44 ≤ v.size = omega arith in
      record {
        formatted = plain-formatted v w n 2 3 f was two three low c given-kind;
        was = was;
        is = plain-is v w n 2 3 f was two three low c given-kind;
        block = c.change;
        segments = plain-segments v w n 2 3 f was two three low c given-kind;
        header = plain-header v w n 2 3 f was two three low c given-kind;
        spares =
            (let s = plain-spare v w n 2 3 f was two three low c given-kind in
            let one = is-free v.size w.image n (let l = was.later in λ e. omega arith) given-kind in
            let none = not-free v.size v.image n (let k = was.kind_is in λ e. omega arith) in omega arith);
        holes = plain-holes v w n 2 3 f was two three low c given-kind;
      }

  pub given-space : (space new-space : Space) → IsSpaceOf v.size v.sizes v.image space
      → new-space.contents.items ≡ slice_set space.contents.items n (record { kind = 3; hole = 0 }) → vec_len new-space.contents ≡ vec_len space.contents
      → new-space.lowest ≡ space.lowest → new-space.free ≡ space.free + 1 → new-space.lowest_free ≤ space.lowest_free → new-space.lowest_free ≤ n
      → IsSpaceOf v.size v.sizes w.image new-space
  given-space space new-space h contents len lowest more low-free lower =
      let one = is-free v.size w.image n (let l = was.later in λ e. omega arith) given-kind in
      let none = not-free v.size v.image n (let k = was.kind_is in λ e. omega arith) in
      plain-space v w n 2 3 f was two-one three-one (omega arith) c given-kind space new-space (record { kind = 3; hole = 0 }) h refl contents len
      (λ m. (let e : slice_index new-space.lowest.items m ≡ slice_index space.lowest.items m = ap (λ l. slice_index l.items m) lowest in omega arith)) (omega arith) low-free (λ _. lower)

module _ (v w : VolumeState) (n offset : ℕ) (bs : List ℕ) (f : IsFormatted v) (was : IsKind v 2 n) (least : 128 ≤ v.size) (behind : 4 ≤ offset) (within : offset + length bs ≤ v.size) (c : HasChanged v w n)
    (new : block_of v.size w.image n ≡ with_bytes (block_at v n) offset bs) where
  kept-kind : kind_of (block_of v.size w.image n) ≡ kind_of (block_at v n)
  kept-kind =
      let long = length-block v.size n v.image was.there in
      let x = changes-with (block_at v n) bs offset (omega arith) in
      ap kind_of new ∙ x.below 2 (omega arith)

  pub block-written : call.IsWrittenBlock v n offset bs w
  block-written =
      let two = two-one in
      let low : 44 ≤ v.size = omega arith in
      let now : kind_of (block_of v.size w.image n) ≡ 2 = kept-kind ∙ was.kind_is in
      record {
        formatted = plain-formatted v w n 2 2 f was two two low c now;
        is = plain-is v w n 2 2 f was two two low c now;
        value = block-seen c.same n ∙ new;
        block = c.change;
        segments = plain-segments v w n 2 2 f was two two low c now;
        header = plain-header v w n 2 2 f was two two low c now;
        spares =
            (let s = plain-spare v w n 2 2 f was two two low c now in
            let one = not-free v.size w.image n (λ e. omega arith) in
            let none = not-free v.size v.image n (let k = was.kind_is in λ e. omega arith) in omega arith);
        holes = plain-holes v w n 2 2 f was two two low c now;
      }

  pub written-space : (space : Space) → IsSpaceOf v.size v.sizes v.image space → IsSpaceOf v.size v.sizes w.image space
  written-space space h = keeps-space c f.header space h kept-kind (λ one below. absurd (let k = was.kind_is in omega arith))

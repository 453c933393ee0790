-- Putting a segment into a block.
use Rattle.std.proofs.Common.{◌≡◌, ◌≢◌, inl, inr, ℕ, ◌+◌, ◌-◌, ◌*◌, ◌/◌, ◌%◌, ◌<◌, ◌≤◌, List, length, slice_index, Option, Some, None, IfSome, IfNone, sym, ap, ◌∙◌, arith, subst}
use Rattle.std.proofs.lemmas.Bool.{cases_eq}
use Rattle.std.proofs.lemmas.Nat.{div-mul-add, mod-mul-add}
use Rattle.hd_bytes.specs.Ranges.{with_bytes}
use Rattle.hd_bytes.specs.Blocks.{block_of}
use Rattle.hd_block.specs.Walk.{parts_in}
use Rattle.hd_block.specs.Parts.{parts_of}
use Rattle.hd_block.proofs.PartLemmas.{parts-divided}
use Rattle.hd_volume.specs.declared.space.Space.{Space}
use Rattle.hd_volume.specs.Edits.{IsTaken}
use Rattle.hd_volume.specs.Images.{ChangesBlock}
use Rattle.hd_volume.specs.Headers.{HasHeader}
use Rattle.hd_volume.specs.Volumes.{VolumeState, block_at, kind_of, IsFormatted}
use Rattle.hd_volume.specs.Records.{segment_in}
use Rattle.hd_volume.specs.Rooms.{largest_hole, HasHole}
use Rattle.hd_volume.specs.Spaces.{blocks_in, IsSpaceOf, AreDivided, IsSeen}
use Rattle.hd_volume.specs.Steps as step
use Rattle.hd_volume.specs.Spacing.{HasNoTwo}
use Rattle.hd_volume.specs.Spacing as left
use Rattle.hd_volume.proofs.FreeLemmas.{one-alone}
use Rattle.hd_volume.proofs.MapLemmas.{find-in}
use Rattle.hd_volume.proofs.EditLemmas.{IsPutIn, put-edits, none-large}
use Rattle.hd_volume.proofs.FrameLemmas.{HasChanged, block-seen, kind-on, other-blocks, keeps-header, keeps-kinds, keeps-spare, keeps-formatted, keeps-space}
use Rattle.hd_volume.proofs.CallLemmas.{find-new, keeps-others, looked-at}
use Rattle.hd_volume.proofs.SpaceLemmas.{has-block}
use Rattle.hd_dbd.specs.declared.facts.SegmentSize.{SegmentSize}
use Rattle.hd_block.specs.Sizes.{size_at}

-- the block and the place of an address
pub address-block : (n size q : ℕ) → q < size → (n * size + q) / size ≡ n
address-block n size q low = div-mul-add n size q low

pub address-place : (n size q : ℕ) → q < size → (n * size + q) % size ≡ q
address-place n size q low = mod-mul-add n size q low

module _ (v w : VolumeState) (n a q : ℕ) (bs b1 : List ℕ) (f : IsFormatted v) (r : step.HasRoom v n (length bs)) (least : 44 ≤ v.size)
    (c : HasChanged v w n) (taken : IsTaken v.sizes (length bs) (block_at v n) (Some q) b1) (new : block_of v.size w.image n ≡ with_bytes b1 q bs)
    (some : 8 ≤ length bs) (code : size_at v.sizes bs 0 ≡ length bs) (fits : q + length bs ≤ length b1) (block : a / v.size ≡ n) (place : a % v.size ≡ q) where
  put-block : IsPutIn v.sizes (block_at v n) (block_of v.size w.image n) q bs
  put-block =
      let x = f.divided n r.is_data in
      let P : List ℕ → Type 0 = λ b. IsPutIn v.sizes (block_at v n) b q bs in
      subst P (sym new) (put-edits v.sizes (block_at v n) b1 x.extents q bs x.divides x.whole taken some code fits)

  pub put-puts : step.IsPutIn v n a bs w
  put-puts =
      let later : n ≢ 0 = (let l = r.is_data.later in λ e. omega arith) in
      let header = keeps-header c f.header least later in
      let positive : 0 < v.size = omega arith in
      let was : kind_of (block_at v n) ≡ 1 = r.is_data.kind_is in
      let is : kind_of (block_of v.size w.image n) ≡ 1 = put-block.kind ∙ was in
      let later' : a / v.size ≢ 0 = λ e. later (sym block ∙ e) in
      let was' : kind_of (block_at v (a / v.size)) ≡ 1 = ap (λ (i : ℕ). kind_of (block_at v i)) block ∙ was in
      let is' : kind_of (block_of v.size w.image (a / v.size)) ≡ 1 = ap (λ (i : ℕ). kind_of (block_of v.size w.image i)) block ∙ is in
      let C : ℕ → Type 0 = λ i. HasChanged v w i in
      record {
        formatted = keeps-formatted c f.header f header put-block.kind (λ _. record { extents = put-block.extents; divides = put-block.divides; whole = put-block.whole });
        at = block;
        was = find-in v a later' was' ∙ (let e : segment_in v.sizes (block_at v (a / v.size)) (a % v.size) ≡ None = rw (block, place) put-block.was in e);
        is = find-new v w c.same a later' is' ∙ (let e : segment_in v.sizes (block_of v.size w.image (a / v.size)) (a % v.size) ≡ Some bs = rw (block, place) put-block.is in e);
        others = keeps-others v w a (subst C (sym block) c) f.header positive later' was' is' (rw (block, place) put-block.others);
        block = c.change;
        header = header;
        spares = keeps-spare c f.header header put-block.kind;
        holes = λ k more h.
            let m : ℕ = h.block in
            let on = kind-on c.same 1 m c.change.len (keeps-kinds c f.header put-block.kind m) h.is_data in
            let large : k - length bs ≤ largest_hole (parts_in v.sizes (block_of v.size w.image m)) =
            elim (cases_eq m n) [
              | inl e ↦ (let R : ℕ → Type 0 = λ i. k - length bs ≤ largest_hole (parts_in v.sizes (block_of v.size w.image i)) in
                  let S : ℕ → Type 0 = λ i. k ≤ largest_hole (parts_in v.sizes (block_at v i)) in
                  subst R (sym e) (put-block.rest k more (subst S e h.large)))
              | inr other ↦ (let R : List ℕ → Type 0 = λ b. k - length bs ≤ largest_hole (parts_in v.sizes b) in
                  let big : k ≤ largest_hole (parts_in v.sizes (block_at v m)) = h.large in
                  subst R (sym (other-blocks c f.header m other)) (omega arith))
            ]
            in
            let P : List ℕ → Type 0 = λ b. k - length bs ≤ largest_hole (parts_in w.sizes b) in
            let Q : List SegmentSize → Type 0 = λ z. k - length bs ≤ largest_hole (parts_in z (block_of v.size w.image m)) in
            record { block = m; is_data = on; large = subst P (sym (block-seen c.same m)) (subst Q (sym c.same.sizes) large) };
        alone = λ none.
            let P : List ℕ → Type 0 = λ b. HasNoTwo w.sizes b in
            let Q : List SegmentSize → Type 0 = λ z. HasNoTwo z (block_of v.size w.image n) in
            subst P (sym (block-seen c.same n)) (subst Q (sym c.same.sizes) (one-alone v.sizes (block_of v.size w.image n) q (λ p other. put-block.others p other ∙ none p)));
        free =
            let P : List ℕ → Type 0 = λ b. left.free_bytes (parts_in w.sizes b) + length bs ≡ left.free_bytes (parts_in v.sizes (block_at v n)) in
            let Q : List SegmentSize → Type 0 = λ z. left.free_bytes (parts_in z (block_of v.size w.image n)) + length bs ≡ left.free_bytes (parts_in v.sizes (block_at v n)) in
            subst P (sym (block-seen c.same n)) (subst Q (sym c.same.sizes) put-block.free_bytes);
        unused = λ k l u. put-block.unused k l u ∙ ap (λ (b : List ℕ). slice_index b k) (sym (block-seen c.same n));
      }

  pub put-space : (space : Space) → IsSpaceOf v.size v.sizes v.image space → IsSpaceOf v.size v.sizes w.image space
  put-space space k =
      keeps-space c f.header space k put-block.kind
      (λ one below.
      let later = r.is_data.later in
      let old = k.contents n later below in
      let bound = old.bound (old.kind_is ∙ one) in
      let holes = put-block.holes in
      omega arith)

-- a data block with room has a hole that is found
pub room-found : (v : VolumeState) (n need : ℕ) (b1 : List ℕ) → IsFormatted v → step.HasRoom v n need → 0 < need → IsTaken v.sizes need (block_at v n) None b1 → ⊥
room-found v n need b1 f r some t =
    let x = f.divided n r.is_data in
    let parts = parts-divided v.sizes (block_at v n) x.extents x.divides x.whole in
    let low = none-large need 8 x.extents some x.whole (sym (t.found x.extents x.divides)) in
    let large = r.large in
    let same : largest_hole (parts_in v.sizes (block_at v n)) ≡ largest_hole (parts_of 8 x.extents) = ap largest_hole parts in
    omega arith

-- two changes of one block are one
pub changes-both : (size n : ℕ) (a b c : List ℕ) → ChangesBlock size n a b → ChangesBlock size n b c → ChangesBlock size n a c
changes-both size n a b c x y = record {
  len = y.len ∙ x.len;
  others = λ m there other. (let l = x.len in y.others m (omega arith) other) ∙ x.others m there other;
}

-- what holds of each value of an option
pub if-some-map : {A : Type 0} {P Q : A → Type 0} (o : Option A) → ((x : A) → P x → Q x) → IfSome o P → IfSome o Q
if-some-map None h p = tt
if-some-map (Some x) h p = h x p

pub if-none-map : {A : Type 0} {P Q : Type 0} (o : Option A) → (P → Q) → IfNone o P → IfNone o Q
if-none-map None h p = h p
if-none-map (Some x) h p = tt

-- a data block that was found has room
pub room-of : (v : VolumeState) (n need : ℕ) → 0 < v.size → (0 < n) × (n < blocks_in v.size v.image) × (kind_of (block_at v n) ≡ 1) × (need ≤ largest_hole (parts_in v.sizes (block_at v n))) → step.HasRoom v n need
room-of v n need some h = let low = h.1 in record { is_data = record { there = has-block v.size n v.image some (omega arith); later = h.0; kind_is = h.2 }; large = h.3 }

-- in a formatted volume each data block that is looked at is divided
pub are-divided : (v : VolumeState) → 0 < v.size → IsFormatted v → AreDivided v.sizes v.size v.image
are-divided v some f n later below kind = f.divided n (record { there = has-block v.size n v.image some (omega arith); later = later; kind_is = kind })

-- where no block that is looked at has a hole of a size, there is none
pub no-hole : (v : VolumeState) (need : ℕ) → HasHeader v.size v.image → 0 < v.size
    → ((n : ℕ) → 0 < n → n < blocks_in v.size v.image → kind_of (block_at v n) ≡ 1 → largest_hole (parts_in v.sizes (block_at v n)) < need) → HasHole v need → ⊥
no-hole v need header some h hole =
    let small = h hole.block hole.is_data.later (looked-at v hole.block header some hole.is_data.there) hole.is_data.kind_is in
    let large = hole.large in
    omega arith

-- a block that was seen has the hole
pub hole-of : (v : VolumeState) (need : ℕ) → 0 < v.size → IsSeen v.sizes v.size v.image need → HasHole v need
hole-of v need some h = let low = h.below in record { block = h.block; is_data = record { there = has-block v.size h.block v.image some (omega arith); later = h.later; kind_is = h.is_data }; large = h.large }

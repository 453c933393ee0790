-- Steps of a volume one after another.
use Rattle.std.proofs.Common.{◌/◌, ◌≡◌, ◌≢◌, ◌⊎◌, inl, inr, ℕ, ◌+◌, ◌*◌, ◌<◌, ◌≤◌, Bool, false, IsTrue, List, length, slice_index, slice_index_or, vec_len, Result, Ok, Err, IfOk, IfErr, refl, sym, ap, ◌∙◌, arith, subst}
use Rattle.std.proofs.lemmas.Bool.{cases_lt, cases_eq}
use Rattle.hd_bytes.specs.Blocks.{block_of, HasBlock}
use Rattle.hd_block.specs.Walk.{parts_in}
use Rattle.hd_volume.specs.Images.{KeepsFirst}
use Rattle.hd_volume.specs.Headers.{Header, header_of, HasHeader}
use Rattle.hd_volume.specs.Volumes.{VolumeState, block_at, kind_of, IsKind, HasExtents, IsFormatted}
use Rattle.hd_volume.specs.Rooms.{spare, largest_hole, HasHole}
use Rattle.hd_dbd.specs.declared.answer.Refused.{Refused}
use Rattle.hd_dbd.specs.declared.answer.Refused.TheVariants.{Memory, Full, Device, Broken, Area}
use Rattle.hd_dbd.specs.Refusals.{OnlyMemory}
use Rattle.hd_stores.specs.Stores.{CountsFor, SoundFor, StaysSound, RefusesGrowth}
use Rattle.hd_volume.specs.Calls.{IsCall, IsRead, KeepsHoles, KeepsSegments, KeepsUnused, HasUnused, AreZero, MayGrow, GrowsByOne, IsPut, IsTakenBlock}
use Rattle.hd_volume.specs.declared.space.Space.{Space}
use Rattle.hd_volume.specs.Spaces.{blocks_in, content_at, IsSpaceOf}
use Rattle.hd_volume.proofs.CallLemmas.{looked-at}
use Rattle.hd_volume.proofs.SpaceLemmas.{has-block}
use Rattle.hd_volume.specs.Steps as step
use Rattle.hd_volume.proofs.FrameLemmas.{AreSame, block-seen}
use Rattle.hd_volume.proofs.MapLemmas.{kind-there}
use Rattle.std.proofs.lemmas.Nat.{row_fits}
use Rattle.std.proofs.Math.Nat.{mul-le-mul_right}
use Rattle.hd_volume.specs.Images.{ChangesBlock}
use Rattle.hd_volume.specs.Spacing.{no_spacing, IsPlain, HasBytesFree}
use Rattle.hd_dbd.specs.declared.hierarchy.FreeSpace.{FreeSpace}
use Rattle.hd_volume.proofs.KindLemmas.{none-free, some-free}
use Rattle.hd_dbd.specs.declared.facts.SegmentSize.{SegmentSize}

-- ---- one image

-- One image, with one block size and the same stored sizes.
pub record AreOne (v w : VolumeState) : Type 0 where
  pub same : AreSame v w
  pub image : w.image ≡ v.image

module _ {v w : VolumeState} (o : AreOne v w) where
  pub one-block : (n : ℕ) → block_at w n ≡ block_at v n
  one-block n = block-seen o.same n ∙ ap (λ (i : List ℕ). block_of v.size i n) o.image

  pub one-kind : (k n : ℕ) → IsKind v k n → IsKind w k n
  one-kind k n h = record { there = (let t = h.there in let l : length w.image ≡ length v.image = ap length o.image in rw o.same.size (omega arith)); later = h.later; kind_is = ap kind_of (one-block n) ∙ h.kind_is }

  pub one-back : (k n : ℕ) → IsKind w k n → IsKind v k n
  one-back k n h = record {
    there = (let t : n * v.size + v.size ≤ length w.image = rw o.same.size at h.there in let l : length w.image ≡ length v.image = ap length o.image in omega arith);
    later = h.later;
    kind_is = sym (ap kind_of (one-block n)) ∙ h.kind_is;
  }

  pub one-formatted : IsFormatted v → IsFormatted w
  one-formatted f = record {
    header = (let P : List ℕ → Type 0 = λ i. HasHeader w.size i in let Q : ℕ → Type 0 = λ z. HasHeader z v.image in subst P (sym o.image) (subst Q (sym o.same.size) f.header));
    divided = λ n k.
        let P : List ℕ → Type 0 = λ b. HasExtents w.sizes b in
        let Q : List SegmentSize → Type 0 = λ z. HasExtents z (block_at v n) in
        subst P (sym (one-block n)) (subst Q (sym o.same.sizes) (f.divided n (one-back 1 n k)));
  }

  pub one-segments : KeepsSegments v w
  one-segments a = rw (o.same.size, o.same.sizes, o.image) refl

  pub one-spare : spare w ≡ spare v
  one-spare = rw (o.same.size, o.image) refl

  pub one-room : (n need : ℕ) → step.HasRoom v n need → step.HasRoom w n need
  one-room n need r =
      let P : List ℕ → Type 0 = λ b. need ≤ largest_hole (parts_in w.sizes b) in
      let Q : List SegmentSize → Type 0 = λ z. need ≤ largest_hole (parts_in z (block_at v n)) in
      record { is_data = one-kind 1 n r.is_data; large = subst P (sym (one-block n)) (subst Q (sym o.same.sizes) r.large) }

  pub one-holes : KeepsHoles v w
  one-holes k h = let r = one-room h.block k (record { is_data = h.is_data; large = h.large }) in record { block = h.block; is_data = r.is_data; large = r.large }

  pub one-grows : (n : ℕ) → MayGrow v n w
  one-grows n =
      let same : header_of w.image ≡ header_of v.image = ap header_of o.image in
      let count : (header_of w.image).count ≡ (header_of v.image).count = ap (λ (h : Header). h.count) same in
      record { count = inl count; passed = λ m high low other. absurd (omega arith); header = same ∙ (let e : header_of v.image ≡ record (header_of v.image) { count = (header_of w.image).count } = rw count refl in e) }

  pub one-unused : (n : ℕ) → KeepsUnused v w n
  one-unused n k l u = ap (λ (b : List ℕ). slice_index b k) (sym (one-block n))

  -- a hole that was there
  pub ready-found : (n need : ℕ) → IsFormatted v → step.HasRoom v n need → step.IsReady v n need w
  ready-found n need f r = record {
    formatted = one-formatted f;
    place = inl r.is_data;
    blocks = λ m there later other. one-block m;
    longer = (let l : length w.image ≡ length v.image = ap length o.image in omega arith);
    room = one-room n need r;
    segments = one-segments;
    index = λ m k. one-block m;
    grows = one-grows n;
    by_one = λ _. (let e : (header_of w.image).count ≡ (header_of v.image).count = ap (λ (i : List ℕ). (header_of i).count) o.image in omega arith);
    spares = (let e = one-spare in omega arith);
    in_hole = λ _ _. one-spare;
    holes = one-holes;
    unused = (λ _. one-unused n, λ none. absurd (none r.is_data));
  }

  -- a free block that was there
  pub free-found : (n : ℕ) → IsFormatted v → IsKind v 3 n → step.HasFree v n w
  free-found n f k = record {
    formatted = one-formatted f;
    is = one-kind 3 n k;
    was = inl k;
    others = λ m there later. one-block m;
    grows = one-grows n;
    segments = one-segments;
    spares = one-spare;
    holes = one-holes;
  }

  -- as many bytes are free in a block
  pub one-free : (n need : ℕ) → HasBytesFree v.sizes need (block_at v n) → HasBytesFree w.sizes need (block_at w n)
  one-free n need h =
      let P : List ℕ → Type 0 = λ b. HasBytesFree w.sizes need b in
      let Q : List SegmentSize → Type 0 = λ z. HasBytesFree z need (block_at v n) in
      subst P (sym (one-block n)) (subst Q (sym o.same.sizes) h)

  pub one-count : (header_of w.image).count ≡ (header_of v.image).count
  one-count = ap (λ (i : List ℕ). (header_of i).count) o.image

  pub grows-after : {u : VolumeState} (n : ℕ) → MayGrow w n u → MayGrow v n u
  grows-after {u} n g = record {
    count = elim g.count [ inl e ↦ inl (e ∙ one-count) | inr e ↦ inr (e.0, rw one-count at e.1, rw one-count at e.2) ];
    passed = λ m high low other. g.passed m (rw one-count high) low other;
    header = (let H : List ℕ → Type 0 = λ i. header_of u.image ≡ record (header_of i) { count = (header_of u.image).count } in subst H o.image g.header);
  }

  -- what follows a call that only read
  pub free-after : {u : VolumeState} (n : ℕ) → step.HasFree w n u → step.HasFree v n u
  free-after {u} n h = record {
    formatted = h.formatted;
    is = h.is;
    was = elim h.was [ inl k ↦ inl (one-back 3 n k) | inr e ↦ inr (rw one-count at e) ];
    others = λ m there later. h.others m (let l : length w.image ≡ length v.image = ap length o.image in rw o.same.size (omega arith)) later ∙ one-block m;
    grows = grows-after n h.grows;
    segments = λ b. h.segments b ∙ one-segments b;
    spares = h.spares ∙ one-spare;
    holes = λ k x. h.holes k (one-holes k x);
  }

-- a block of a kind that is not the one that has changed
pub kind-kept : {v w : VolumeState} {n : ℕ} → AreSame v w → ChangesBlock v.size n v.image w.image → (k m : ℕ) → m ≢ n → IsKind v k m → IsKind w k m
kind-kept {v} {w} {n} s c k m other h = record {
  there = (let t = h.there in let l = c.len in rw s.size (omega arith));
  later = h.later;
  kind_is = ap kind_of (block-seen s m ∙ c.others m h.there other) ∙ h.kind_is;
}

-- a block of a formatted volume is one that it counts
pub counted : (v : VolumeState) (m : ℕ) → IsFormatted v → 0 < v.size → HasBlock v.size v.image m → m < (header_of v.image).count
counted v m f some there =
    elim (cases_lt m (header_of v.image).count) [
      | inl low ↦ low
      | inr high ↦ (let past : (header_of v.image).count * v.size ≤ m * v.size = mul-le-mul_right v.size high in let whole = f.header.whole in absurd (omega arith))
    ]

-- with no free block and no room to grow there is none to spare
pub no-spare : (v : VolumeState) → IsFormatted v → 0 < v.size → (header_of v.image).largest ≤ (header_of v.image).count → ((m : ℕ) → IsKind v 3 m → ⊥) → spare v ≡ 0
no-spare v f positive full none =
    let free = none-free v.size v.image (header_of v.image).count
    (λ m some low is. none m (record {
      there = (let fits : m * v.size + v.size ≤ (header_of v.image).count * v.size = row_fits m v.size (header_of v.image).count v.size low (omega arith) in let whole = f.header.whole in omega arith);
      later = omega arith;
      kind_is = is;
    })) in
    omega arith

-- ---- a free block that becomes one for data, and a segment put into it

-- a volume counts no fewer blocks than before
pub grown-count : {u v : VolumeState} (n : ℕ) → MayGrow u n v → (header_of u.image).count ≤ (header_of v.image).count
grown-count n g = elim g.count [ inl e ↦ omega arith | inr e ↦ (let a = e.0 in let b = e.1 in omega arith) ]

-- what follows a change that leaves the header and every free block
pub grows-through : {u v w : VolumeState} (n : ℕ) → MayGrow u n v → header_of w.image ≡ header_of v.image → ((m : ℕ) → m ≢ n → IsKind v 3 m → IsKind w 3 m) → MayGrow u n w
grows-through {u} {v} {w} n g same stays =
    let count : (header_of w.image).count ≡ (header_of v.image).count = ap (λ (x : Header). x.count) same in
    record {
      count = elim g.count [ inl e ↦ inl (count ∙ e) | inr e ↦ inr (count ∙ e.0, e.1, e.2) ];
      passed = λ m high low other. stays m other (g.passed m high (rw count at low) other);
      header = same ∙ g.header ∙ (let e : record (header_of u.image) { count = (header_of v.image).count } ≡ record (header_of u.image) { count = (header_of w.image).count } = rw count refl in e);
    }

-- a volume that was given a free block is no shorter
free-longer : {u v : VolumeState} (n : ℕ) → IsFormatted u → step.HasFree u n v → v.size ≡ u.size → length u.image ≤ length v.image
free-longer {u} {v} n f h size =
    let a = f.header.whole in
    let b : length v.image ≡ (header_of v.image).count * u.size = h.formatted.header.whole ∙ (let e : (header_of v.image).count * v.size ≡ (header_of v.image).count * u.size = rw size refl in e) in
    let more : (header_of u.image).count * u.size ≤ (header_of v.image).count * u.size = mul-le-mul_right u.size (grown-count n h.grows) in
    omega arith

-- and so are its blocks
free-there : {u v : VolumeState} (n : ℕ) → IsFormatted u → step.HasFree u n v → v.size ≡ u.size → (k : ℕ) → HasBlock u.size u.image k → HasBlock v.size v.image k
free-there n f h size k x = rw size (let l = free-longer n f h size in omega arith)

-- a free block behind another by which the volume has grown
pub free-twice : {u v w : VolumeState} (m n : ℕ) → IsFormatted u → 0 < u.size → v.size ≡ u.size → w.size ≡ u.size → step.HasFree u m v → step.HasFree v n w → m ≡ (header_of u.image).count → n ≡ (header_of v.image).count
    → step.HasFree u n w × (n ≡ (header_of u.image).count + 1)
free-twice {u} {v} {w} m n f some size size' a b m-is n-is =
    let v-some : 0 < v.size = rw size some in
    let w-some : 0 < w.size = rw size' some in
    let low = counted v m a.formatted v-some a.is.there in
    let high = counted w n b.formatted w-some b.is.there in
    let first : (header_of v.image).count ≡ m + 1 = elim a.grows.count [ inl e ↦ absurd (omega arith) | inr e ↦ e.0 ] in
    let second : (header_of w.image).count ≡ n + 1 = elim b.grows.count [ inl e ↦ absurd (omega arith) | inr e ↦ e.0 ] in
    let on = λ (k : ℕ) (x : HasBlock u.size u.image k). free-there m f a size k x in (
      record {
        formatted = b.formatted;
        is = b.is;
        was = inr (omega arith);
        others = λ k there later. b.others k (on k there) later ∙ a.others k there later;
        grows = record {
          count = inr (second, omega arith, omega arith);
          passed = λ k after before other.
              let at : k ≡ m = omega arith in
              let K : ℕ → Type 0 = λ i. IsKind w 3 i in
              subst K (sym at) (record {
                there = free-there n a.formatted b (size' ∙ sym size) m a.is.there;
                later = a.is.later;
                kind_is = ap kind_of (b.others m a.is.there a.is.later) ∙ a.is.kind_is;
              });
          header = b.grows.header ∙ ap (λ (h : Header). record h { count = (header_of w.image).count }) a.grows.header;
        };
        segments = λ x. b.segments x ∙ a.segments x;
        spares = b.spares ∙ a.spares;
        holes = λ k x. b.holes k (a.holes k x);
      },
      omega arith,
    )

-- what is free where nothing of the image changes before it and behind it
pub free-between : {u v w x : VolumeState} (o : AreOne u v) (p : AreOne w x) (n : ℕ) → step.HasFree v n w → step.HasFree u n x
free-between {u} {v} {w} {x} o p n h =
    let g = free-after o n h in
    record {
      formatted = one-formatted p g.formatted;
      is = one-kind p 3 n g.is;
      was = g.was;
      others = λ m there later. one-block p m ∙ g.others m there later;
      grows = grows-through n g.grows (ap header_of p.image) (λ m other three. one-kind p 3 m three);
      segments = λ b. one-segments p b ∙ g.segments b;
      spares = one-spare p ∙ g.spares;
      holes = λ k y. one-holes p k (g.holes k y);
    }

pub ready-new : {u v w : VolumeState} (n need : ℕ) → AreSame v w → IsFormatted u → step.HasFree u n v → step.IsMade v n 1 w → step.HasRoom w n need → (IsPlain u → HasHole u need → ⊥) → GrowsByOne u v → u.size ≡ v.size → 0 < u.size → AreZero 3 5 (block_at w n) → step.IsReady u n need w
ready-new {u} {v} {w} n need s f h m r none by_one size some zeros =
    let same : header_of w.image ≡ header_of v.image = m.header in
    let count : (header_of w.image).count ≡ (header_of v.image).count = ap (λ (x : Header). x.count) same in
    record {
      formatted = m.formatted;
      place = elim h.was [ inl k ↦ inr (inl k) | inr e ↦ inr (inr e) ];
      blocks = λ k x later apart. block-seen s k ∙ m.block.others k (free-there n f h (sym size) k x) apart ∙ h.others k x later;
      longer = (let l = m.block.len in let g = free-longer n f h (sym size) in omega arith);
      room = r;
      segments = λ b. m.segments b ∙ h.segments b;
      index = λ k is.
          let first = h.others k is.there is.later in
          let apart : k ≢ n = λ e.
          (let two : kind_of (block_at v k) ≡ 2 = ap kind_of first ∙ is.kind_is in
          let three : kind_of (block_at v k) ≡ 3 = ap (λ (i : ℕ). kind_of (block_at v i)) e ∙ h.is.kind_is in omega arith) in
          let len : HasBlock v.size v.image k = kind-there v.size k (header_of v.image).count 2 v.image h.formatted.header.whole (λ e. omega arith) (ap kind_of first ∙ is.kind_is) in
          block-seen s k ∙ m.block.others k len apart ∙ first;
      grows = grows-through n h.grows m.header (λ k apart three. kind-kept s m.block 3 k apart three);
      by_one = λ plain. (let few = by_one plain in omega arith);
      spares = (let a = h.spares in let b = m.spares in omega arith);
      in_hole = λ p x. absurd (none p x);
      holes = λ k x. m.holes k (h.holes k x);
      unused = (
        λ is. absurd (elim h.was [
          | inl three ↦ (let one = is.kind_is in let k = three.kind_is in omega arith)
          | inr past ↦ (let low = counted u n f some is.there in omega arith)
        ]),
        λ _. zeros,
      );
    }

-- the blocks of a volume that was made ready are still there
ready-there : {u v : VolumeState} {n need : ℕ} (k : ℕ) → step.IsReady u n need v → v.size ≡ u.size → HasBlock u.size u.image k → HasBlock v.size v.image k
ready-there k r size x = rw size (let l = r.longer in omega arith)

-- what is unused in a block stays so where it is kept behind a step
pub unused-on : (u v w : VolumeState) (n : ℕ) → HasUnused u v n → KeepsUnused v w n → HasUnused u w n
unused-on u v w n h kept = (λ is k l b. h.0 is k l b ∙ kept k l b, λ none k l b. sym (kept k l b) ∙ h.1 none k l b)

-- and behind a step that changes nothing of the image
pub unused-after : {v w : VolumeState} (u : VolumeState) (o : AreOne v w) (n : ℕ) → HasUnused w u n → HasUnused v u n
unused-after u o n h = (λ is k l b. one-unused o n k l b ∙ h.0 (one-kind o 1 n is) k l b, λ none. h.1 (λ is. none (one-back o 1 n is)))

pub put-from : {u v w : VolumeState} (n need a : ℕ) (bs : List ℕ) → v.size ≡ u.size → AreSame v w → step.IsReady u n need v → step.IsPutIn v n a bs w → need ≡ length bs → IsPut u a bs w
put-from {u} {v} {w} n need a bs size s r p need-is =
    let at : a / u.size ≡ n = ap (λ (z : ℕ). a / z) (sym size) ∙ p.at in
    let same : header_of w.image ≡ header_of v.image = p.header in
    let count : (header_of w.image).count ≡ (header_of v.image).count = ap (λ (x : Header). x.count) same in
    record {
      formatted = p.formatted;
      place = (let P : ℕ → Type 0 = λ k. IsKind u 1 k ⊎ IsKind u 3 k ⊎ ((header_of u.image).count ≤ k) in subst P (sym at) r.place);
      blocks = λ k x later apart.
          let other : k ≢ n = λ e. apart (e ∙ sym at) in
          block-seen s k ∙ p.block.others k (ready-there k r size x) other ∙ r.blocks k x later other;
      was = sym (r.segments a) ∙ p.was;
      is = p.is;
      others = λ b other. p.others b other ∙ r.segments b;
      index = λ k is.
          let first = r.index k is in
          let two : kind_of (block_at v k) ≡ 2 = ap kind_of first ∙ is.kind_is in
          let apart : k ≢ n = λ e. (let one : kind_of (block_at v k) ≡ 1 = ap (λ (i : ℕ). kind_of (block_at v i)) e ∙ r.room.is_data.kind_is in omega arith) in
          let there : HasBlock v.size v.image k = kind-there v.size k (header_of v.image).count 2 v.image r.formatted.header.whole (λ e. omega arith) two in
          block-seen s k ∙ p.block.others k there apart ∙ first;
      grows = (let G : ℕ → Type 0 = λ k. MayGrow u k w in subst G (sym at) (grows-through n r.grows p.header (λ k apart three. kind-kept s p.block 3 k apart three)));
      by_one = λ plain. (let few = r.by_one plain in omega arith);
      spares = (let x = r.spares in let y = p.spares in omega arith);
      in_hole = λ plain h. (let P : ℕ → Type 0 = λ k. HasHole u k in p.spares ∙ r.in_hole plain (subst P (sym need-is) h));
      holes = λ k more h. p.holes k more (r.holes k h);
      unused = (let P : ℕ → Type 0 = λ k. HasUnused u w k in subst P (sym at) (unused-on u v w n r.unused p.unused));
    }

-- ---- seeking a free block

-- what is kept stays true where the lowest free block is noted
pub sought-space : (size : ℕ) (sizes : List SegmentSize) (image : List ℕ) (space new : Space) (r : ℕ) → IsSpaceOf size sizes image space → new.contents ≡ space.contents → new.lowest ≡ space.lowest → new.free ≡ space.free
    → (0 < r → (r < vec_len space.contents) × ((content_at space r).kind ≡ 3) × (new.lowest_free ≡ r) × ((m : ℕ) → 0 < m → space.lowest_free ≤ m → m < r → (content_at space m).kind ≡ 3 → ⊥))
    → (r ≡ 0 → (new.lowest_free ≡ space.lowest_free) × ((m : ℕ) → 0 < m → space.lowest_free ≤ m → m < vec_len space.contents → (content_at space m).kind ≡ 3 → ⊥))
    → IsSpaceOf size sizes image new
sought-space size sizes image space new r h contents lowest free-is found none =
    let same = λ (m : ℕ). (let e : content_at new m ≡ content_at space m = ap (λ v. slice_index_or v.items m (record { kind = 0; hole = 0 })) contents in e) in
    record {
      len = ap (λ v. vec_len v) contents ∙ h.len;
      contents = λ m some below. rw (same m) (h.contents m some below);
      lowest = λ k m some under beneath is-data. rw (same m) (h.lowest k m some (rw lowest at under) beneath (rw (same m) at is-data));
      free = free-is ∙ h.free;
      lowest_free = λ m some under beneath three.
          let content = h.contents m some beneath in
          elim (cases_eq r 0) [
            | inl z ↦ (let n = none z in let e = n.0 in h.lowest_free m some (omega arith) beneath three)
            | inr more ↦ (let x = found (omega arith) in let e = x.2 in
                elim (cases_lt m space.lowest_free) [
                  | inl low ↦ h.lowest_free m some low beneath three
                  | inr high ↦ x.3 m some (omega arith) (omega arith) (content.kind_is ∙ three)
                ])
          ];
    }

-- a block that is kept as free is free
pub sought-found : (v : VolumeState) (space : Space) (r : ℕ) → 0 < v.size → IsSpaceOf v.size v.sizes v.image space → 0 < r → r < vec_len space.contents → (content_at space r).kind ≡ 3 → IsKind v 3 r
sought-found v space r positive h some low three =
    let below : r < blocks_in v.size v.image = omega (arith, h.len) in
    let content = h.contents r some below in
    record { there = has-block v.size r v.image positive (omega arith); later = some; kind_is = sym content.kind_is ∙ three }

-- where no block is kept as free, none is
pub sought-none : (v : VolumeState) (space : Space) (m : ℕ) → IsFormatted v → 0 < v.size → IsSpaceOf v.size v.sizes v.image space
    → ((m : ℕ) → 0 < m → space.lowest_free ≤ m → m < vec_len space.contents → (content_at space m).kind ≡ 3 → ⊥) → IsKind v 3 m → ⊥
sought-none v space m f positive h none k =
    let below = looked-at v m f.header positive k.there in
    let content = h.contents m k.later below in
    elim (cases_lt m space.lowest_free) [
      | inl low ↦ h.lowest_free m k.later low below k.kind_is
      | inr high ↦ none m k.later (omega arith) (omega (arith, h.len)) (content.kind_is ∙ k.kind_is)
    ]

-- where none is counted, none is free
pub none-counted : (v : VolumeState) (space : Space) (m : ℕ) → IsFormatted v → 0 < v.size → IsSpaceOf v.size v.sizes v.image space → space.free ≡ 0 → IsKind v 3 m → ⊥
none-counted v space m f positive h zero-free k =
    let below = looked-at v m f.header positive k.there in
    let later = k.later in
    let some = some-free v.size v.image m (blocks_in v.size v.image) below (λ e. omega arith) k.kind_is in
    omega (arith, h.free)

-- what holds of each error
pub if-err-map : {A E : Type 0} {P Q : E → Type 0} (r : Result A E) → ((e : E) → P e → Q e) → IfErr r P → IfErr r Q
if-err-map (Ok x) h p = tt
if-err-map (Err e) h p = h e p

pub if-ok-map : {A E : Type 0} {P Q : A → Type 0} (r : Result A E) → ((x : A) → P x → Q x) → IfOk r P → IfOk r Q
if-ok-map (Ok x) h p = h x p
if-ok-map (Err e) h p = tt

-- ---- calls one after another

first-join : (u v w : VolumeState) → v.size ≡ u.size → KeepsFirst u.size u.stored v.stored → KeepsFirst v.size v.stored w.stored → KeepsFirst u.size u.stored w.stored
first-join u v w size a b =
    let c : KeepsFirst u.size v.stored w.stored = rw size at b in
    record { len = (let x = a.len in let y = c.len in omega arith); first = λ there. (let l = a.len in c.first (omega arith)) ∙ a.first there }

counts-join : (e : Refused) (a b c : ℕ) → b ≡ a → CountsFor e b c → CountsFor e a c
counts-join e a b c same h = rw same at h

-- space that was to be left still is, or no longer
pub spacing-join : (a b c : FreeSpace) → (b ≡ a) ⊎ (b ≡ no_spacing) → (c ≡ b) ⊎ (c ≡ no_spacing) → (c ≡ a) ⊎ (c ≡ no_spacing)
spacing-join a b c (inl x) (inl y) = inl (y ∙ x)
spacing-join a b c (inr x) (inl y) = inr (y ∙ x)
spacing-join a b c h (inr y) = inr y

sound-join : (e : Refused) (a b c : Bool) → b ≡ a → SoundFor e b c → SoundFor e a c
sound-join e a b c same h = rw same at h

-- a store that is sound after a refusal was so before
pub was-sound : (e : Refused) (a b : Bool) → SoundFor e a b → IsTrue b → IsTrue a
was-sound Memory a b h s = rw (← h) s
was-sound Full a b h s = rw (← h) s
was-sound Broken a b h s = rw (← h) s
was-sound Area a b h s = rw (← h) s
was-sound Device a b h s = (let none : IsTrue false = rw h at s in absurd (cc))

-- a growth that is refused while the store stays sound leaves the image
pub grow-kept : (e : Refused) (room : ℕ) (a b : Bool) (old new : List ℕ) → RefusesGrowth e room 1 → SoundFor e a b → IsTrue b → (e ≡ Memory → IsTrue a → new ≡ old) → IsTrue a × (new ≡ old)
grow-kept Memory room a b old new r s now kept = (let before : IsTrue a = rw (← s) now in (before, kept refl before))
grow-kept Full room a b old new r s now kept = absurd r
grow-kept Device room a b old new r s now kept = (let none : IsTrue false = rw s at now in absurd (cc))
grow-kept Broken room a b old new r s now kept = absurd r
grow-kept Area room a b old new r s now kept = absurd r

pub calls-join : {A B : Type 0} {u v w : VolumeState} {x : A} (r : Result B Refused) → IsCall {T = A} u (Ok x) v → IsCall {T = B} v r w → IsCall {T = B} u r w
calls-join {A} {B} {u} {v} {w} (Ok y) a b = record {
  counts = b.counts ∙ a.counts;
  sound = b.sound ∙ a.sound;
  committed = b.committed ∙ a.committed;
  size = b.size ∙ a.size;
  sizes = b.sizes ∙ a.sizes;
  first = λ s. first-join u v w a.size (a.first (rw (← b.sound) s)) (b.first s);
  plain = λ p. b.plain (a.plain p);
  space = λ s h. b.space s (a.space s h);
}
calls-join {A} {B} {u} {v} {w} (Err e) a b = record {
  counts = counts-join e u.failures v.failures w.failures a.counts b.counts;
  sound = sound-join e u.is_sound v.is_sound w.is_sound a.sound b.sound;
  committed = b.committed ∙ a.committed;
  size = b.size ∙ a.size;
  sizes = b.sizes ∙ a.sizes;
  first = λ s. first-join u v w a.size (a.first (was-sound e v.is_sound w.is_sound b.sound s)) (b.first s);
  plain = λ p. b.plain (a.plain p);
  space = λ s h. b.space s (a.space s h);
}

-- the same of calls but for the space that is left
pub step-of : {A : Type 0} {u v : VolumeState} {r : Result A Refused} → IsCall {T = A} u r v → step.IsStep {T = A} u r v
step-of h = record { counts = h.counts; sound = h.sound; committed = h.committed; size = h.size; sizes = h.sizes; first = h.first }

pub steps-join : {A B : Type 0} {u v w : VolumeState} {x : A} (r : Result B Refused) → step.IsStep {T = A} u (Ok x) v → step.IsStep {T = B} v r w → step.IsStep {T = B} u r w
steps-join {A} {B} {u} {v} {w} (Ok y) a b = record {
  counts = b.counts ∙ a.counts;
  sound = b.sound ∙ a.sound;
  committed = b.committed ∙ a.committed;
  size = b.size ∙ a.size;
  sizes = b.sizes ∙ a.sizes;
  first = λ s. first-join u v w a.size (a.first (rw (← b.sound) s)) (b.first s);
}
steps-join {A} {B} {u} {v} {w} (Err e) a b = record {
  counts = counts-join e u.failures v.failures w.failures a.counts b.counts;
  sound = sound-join e u.is_sound v.is_sound w.is_sound a.sound b.sound;
  committed = b.committed ∙ a.committed;
  size = b.size ∙ a.size;
  sizes = b.sizes ∙ a.sizes;
  first = λ s. first-join u v w a.size (a.first (was-sound e v.is_sound w.is_sound b.sound s)) (b.first s);
}

pub read-step : {A : Type 0} {u v : VolumeState} {r : Result A Refused} → IsRead {T = A} u r v → step.IsStep {T = A} u r v
read-step h = step-of h.call

pub read-call : {A : Type 0} {u v : VolumeState} {r : Result A Refused} → IsRead {T = A} u r v → IsCall {T = A} u r v
read-call h = h.call

pub read-one : {A : Type 0} {u v : VolumeState} {r : Result A Refused} → IsRead {T = A} u r v → IsTrue v.is_sound → AreOne u v
read-one h s = record { same = record { size = h.call.size; sizes = h.call.sizes }; image = h.image s }

-- a volume that was to leave no space still is not
pub plain-read : {A : Type 0} {u v : VolumeState} {r : Result A Refused} → IsRead {T = A} u r v → IsPlain u → IsPlain v
plain-read h plain = h.call.plain plain

-- one image is one from either side, and so are three
pub one-turned : {v w : VolumeState} → AreOne v w → AreOne w v
one-turned o = record { same = record { size = sym o.same.size; sizes = sym o.same.sizes }; image = sym o.image }

pub one-both : {u v w : VolumeState} → AreOne u v → AreOne v w → AreOne u w
one-both o p = record { same = record { size = p.same.size ∙ o.same.size; sizes = p.same.sizes ∙ o.same.sizes }; image = p.image ∙ o.image }

-- after a refusal for room a call goes on as if there had been none
pub step-past : {A B : Type 0} {u v : VolumeState} {x : B} (e : Refused) → (e ≡ Full) ⊎ (e ≡ Memory) → step.IsStep {T = A} u (Err e) v → step.IsStep {T = B} u (Ok x) v
step-past {A} {B} {u} {v} e (inl is) h = record {
  counts = (let P : Refused → Type 0 = λ f. CountsFor f u.failures v.failures in subst P is h.counts);
  sound = (let P : Refused → Type 0 = λ f. SoundFor f u.is_sound v.is_sound in subst P is h.sound);
  committed = h.committed;
  size = h.size;
  sizes = h.sizes;
  first = h.first;
}
step-past {A} {B} {u} {v} e (inr is) h = record {
  counts = (let P : Refused → Type 0 = λ f. CountsFor f u.failures v.failures in subst P is h.counts);
  sound = (let P : Refused → Type 0 = λ f. SoundFor f u.is_sound v.is_sound in subst P is h.sound);
  committed = h.committed;
  size = h.size;
  sizes = h.sizes;
  first = h.first;
}

-- what holds of any refusal
pub err-all : {A E : Type 0} {P : Type 0} (r : Result A E) → P → IfErr r (λ _. P)
err-all (Ok x) h = tt
err-all (Err e) h = h

-- a call that only want of memory may end leaves a sound store sound
pub sound-on : {A : Type 0} (r : Result A Refused) → OnlyMemory r → (a b : Bool) → StaysSound r a b → IsTrue a → IsTrue b
sound-on (Ok x) m a b h s = rw h s
sound-on (Err e) m a b h s = (let P : Refused → Type 0 = λ f. SoundFor f a b in let same : b ≡ a = subst P m h in rw same s)

-- what follows a call that only read
pub ready-after : {v w u : VolumeState} (o : AreOne v w) (n need : ℕ) → (IsPlain v → IsPlain w) → step.IsReady w n need u → step.IsReady v n need u
ready-after {v} {w} {u} o n need plain-on r = record {
  formatted = r.formatted;
  place = elim r.place [
    | inl k ↦ inl (one-back o 1 n k)
    | inr (inl k) ↦ inr (inl (one-back o 3 n k))
    | inr (inr e) ↦ inr (inr (rw (one-count o) at e))
  ];
  blocks = λ m x later other. r.blocks m (let l : length w.image ≡ length v.image = ap length o.image in rw o.same.size (omega arith)) later other ∙ one-block o m;
  longer = (let l : length w.image ≡ length v.image = ap length o.image in let m = r.longer in omega arith);
  room = r.room;
  segments = λ b. r.segments b ∙ one-segments o b;
  index = λ m k. r.index m (one-kind o 2 m k) ∙ one-block o m;
  grows = grows-after o n r.grows;
  by_one = λ plain. (let few = r.by_one (plain-on plain) in let same = one-count o in omega arith);
  spares = (let e = one-spare o in let s = r.spares in omega arith);
  in_hole = λ plain h. r.in_hole (plain-on plain) (one-holes o need h) ∙ one-spare o;
  holes = λ k h. r.holes k (one-holes o k h);
  unused = unused-after u o n r.unused;
}

-- and no hole that was not there
pub hole-after : {v w : VolumeState} → AreOne v w → (need : ℕ) → HasHole w need → HasHole v need
hole-after o need h =
    one-holes (record { same = record { size = sym o.same.size; sizes = sym o.same.sizes }; image = sym o.image }) need h

-- ---- a free block that becomes one for the index

pub taken-block : {u v w : VolumeState} (n level : ℕ) → AreSame u v → AreSame v w → IsFormatted u → step.HasFree u n v → step.IsMadeIndex v n level w → GrowsByOne u v → IsTakenBlock u n level w
taken-block {u} {v} {w} n level t s f h m by_one =
    let same : header_of w.image ≡ header_of v.image = m.made.header in
    let count : (header_of w.image).count ≡ (header_of v.image).count = ap (λ (x : Header). x.count) same in
    let long : length u.image ≤ length v.image = free-longer n f h t.size in
    let there = λ (k : ℕ) (x : HasBlock u.size u.image k). (let y : HasBlock v.size v.image k = rw t.size (omega arith) in y) in
    let others = λ (k : ℕ) (x : HasBlock u.size u.image k) (later : 0 < k) (apart : k ≢ n). (let y : block_at w k ≡ block_at u k = block-seen s k ∙ m.made.block.others k (there k x) apart ∙ h.others k x later in y) in
    record {
      formatted = m.made.formatted;
      was = h.was;
      is = m.made.is;
      level_is = m.level_is;
      empty = m.empty;
      others = others;
      segments = λ b. m.made.segments b ∙ h.segments b;
      index = λ k is.
          let first = h.others k is.there is.later in
          others k is.there is.later (λ e.
          (let two : kind_of (block_at v k) ≡ 2 = ap kind_of first ∙ is.kind_is in
          let three : kind_of (block_at v k) ≡ 3 = ap (λ (i : ℕ). kind_of (block_at v i)) e ∙ h.is.kind_is in omega arith));
      grows = grows-through n h.grows m.made.header (λ k apart three. kind-kept s m.made.block 3 k apart three);
      by_one = λ plain. (let few = by_one plain in omega arith);
      spares = (let a = h.spares in let b = m.made.spares in omega arith);
      holes = λ k x. m.made.holes k (h.holes k x);
    }

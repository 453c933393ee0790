-- What calls do to the space that a volume leaves free.
use Rattle.std.proofs.Common.{◌≡◌, ◌≢◌, ◌⊎◌, inl, inr, ℕ, ◌+◌, ◌*◌, ◌/◌, ◌%◌, ◌<◌, ◌≤◌, false, IsTrue, List, length, Result, Ok, Err, OnOk, IfOk, IfErr, refl, sym, ap, ◌∙◌, arith, subst}
use Rattle.std.proofs.lemmas.Bool.{cases_lt, cases_eq}
use Rattle.std.proofs.lemmas.Nat.{row_fits, mod-mul-add}
use Rattle.hd_bytes.proofs.BlockLemmas.{place-of}
use Rattle.hd_bytes.specs.Blocks.{block_of, HasBlock}
use Rattle.hd_block.specs.Walk.{parts_in}
use Rattle.hd_dbd.specs.Refusals.{OnlyDevice, OnlyMemory}
use Rattle.hd_dbd.specs.declared.answer.Refused.{Refused}
use Rattle.hd_dbd.specs.declared.facts.SegmentSize.{SegmentSize}
use Rattle.hd_dbd.specs.declared.hierarchy.FreeSpace.{FreeSpace}
use Rattle.hd_volume.specs.Headers.{Header, header_of}
use Rattle.hd_volume.specs.Volumes.{VolumeState, block_at, kind_of, IsKind, IsFormatted}
use Rattle.hd_volume.specs.Spacing.{no_spacing, IsPlain, IsLeftOut, bytes_to_leave, HasBytesFree, HasSpace, HasLeft, LeavesSpace}
use Rattle.hd_volume.specs.Images.{ChangesBlock, KeepsFirst}
use Rattle.hd_stores.specs.Stores.{CountsFor, SoundFor}
use Rattle.hd_volume.specs.Calls.{IsCall, KeepsFree, MayGrow, IsWritten, IsFreed, IsPut, IsRewritten, IsTakenBlock, IsGivenBlock, IsWrittenBlock, HasNewHeader}
use Rattle.hd_volume.specs.Steps.{IsStep, KeepsSpacing, HasNone, MayTake, IsOpenFor}
use Rattle.hd_volume.specs.Steps as step
use Rattle.hd_volume.proofs.FreeLemmas.{largest-free}
use Rattle.hd_volume.proofs.MapLemmas.{space-same}
use Rattle.hd_volume.proofs.JoinLemmas.{AreOne, one-block, one-count, grown-count, counted, was-sound}

-- a volume that is to leave none leaves it
pub plain-space : (v : VolumeState) → IsPlain v → HasLeft v
plain-space v plain more = record {
  blocks = λ n there later out. (let none : 1 < no_spacing.fbff = subst (λ (s : FreeSpace). 1 < s.fbff) plain out.0 in absurd (omega arith));
  bytes = λ n k.
      let none : bytes_to_leave v.size v.spacing ≡ 0 = ap (λ (s : FreeSpace). v.size * s.fspf / 100) plain ∙ (let e : v.size * 0 / 100 ≡ 0 = rw (let z : v.size * 0 ≡ 0 = omega arith in z) refl in e) in
      inr (omega arith);
}

-- behind a block that is to be left free comes one that is not
pub next-in : (spacing : FreeSpace) (n : ℕ) → IsLeftOut spacing n → IsLeftOut spacing (n + 1) → ⊥
next-in spacing n a b =
    let q : ℕ = n / spacing.fbff in
    let parts : q * spacing.fbff + n % spacing.fbff ≡ n = place-of spacing.fbff n (let l = a.0 in omega arith) in
    let none = a.1 in
    let whole : n ≡ q * spacing.fbff + 0 = omega arith in
    let one : (q * spacing.fbff + 1) % spacing.fbff ≡ 1 = mod-mul-add q spacing.fbff 1 a.0 in
    let e : (n + 1) % spacing.fbff ≡ 1 = ap (λ (k : ℕ). k % spacing.fbff) (let z : n + 1 ≡ q * spacing.fbff + 1 = omega arith in z) ∙ one in
    let zero_one : ◌≡◌ {A = ℕ} 0 1 = sym b.1 ∙ e in
    absurd (omega arith)

-- ---- a change of one block, and growth by free blocks

-- Block n of the volume has changed, and every other is as it was, or new and free.
pub record HasOne (v w : VolumeState) (n : ℕ) : Type 0 where
  pub size : w.size ≡ v.size
  pub sizes : w.sizes ≡ v.sizes
  pub spacing : w.spacing ≡ v.spacing
  pub count : (header_of v.image).count ≤ (header_of w.image).count
  pub largest : (header_of w.image).largest ≡ (header_of v.image).largest
  pub others : (m : ℕ) → HasBlock v.size w.image m → 0 < m → m ≢ n → IsKind w 3 m ⊎ (HasBlock v.size v.image m × (block_at w m ≡ block_at v m))

-- the space is left where it is in that block
pub one-space : (v w : VolumeState) (n : ℕ) → HasOne v w n
    → (HasSpace v → HasBlock v.size w.image n → 0 < n → (IsLeftOut v.spacing n → IsKind w 3 n) × (IsKind w 1 n → HasBytesFree v.sizes (bytes_to_leave v.size v.spacing) (block_at w n)))
    → HasLeft v → HasLeft w
one-space v w n c own h more =
    let grows = c.count in
    let same = c.largest in
    let s = h (omega arith) in
    record {
      blocks = λ m there later out.
          let here : HasBlock v.size w.image m = rw c.size at there in
          let out' : IsLeftOut v.spacing m = rw c.spacing at out in
          elim (cases_eq m n) [
            | inl e ↦ (let P : ℕ → Type 0 = λ i. IsKind w 3 i in subst P (sym e) ((own s (rw e at here) (rw e at later)).0 (rw e at out')))
            | inr other ↦ elim (c.others m here later other) [
              | inl three ↦ three
              | inr old ↦ (let k = s.blocks m old.0 later out' in record { there = there; later = later; kind_is = ap kind_of old.1 ∙ k.kind_is })
            ]
          ];
      bytes = λ m k.
          let here : HasBlock v.size w.image m = rw c.size at k.there in
          let want : HasBytesFree v.sizes (bytes_to_leave v.size v.spacing) (block_at w m) =
          elim (cases_eq m n) [
            | inl e ↦ (let P : ℕ → Type 0 = λ i. HasBytesFree v.sizes (bytes_to_leave v.size v.spacing) (block_at w i) in
                let K : ℕ → Type 0 = λ i. IsKind w 1 i in
                subst P (sym e) ((own s (rw e at here) (let l = k.later in rw e at l)).1 (subst K e k)))
            | inr other ↦ elim (c.others m here k.later other) [
              | inl three ↦ absurd (let one = k.kind_is in let two = three.kind_is in omega arith)
              | inr old ↦
                  (let kind : kind_of (block_at v m) ≡ 1 = sym (ap kind_of old.1) ∙ k.kind_is in
                  let P : List ℕ → Type 0 = λ b. HasBytesFree v.sizes (bytes_to_leave v.size v.spacing) b in
                  subst P (sym old.1) (s.bytes m (record { there = old.0; later = k.later; kind_is = kind })))
            ]
          ] in
          let need : bytes_to_leave w.size w.spacing ≡ bytes_to_leave v.size v.spacing = rw (c.size, c.spacing) refl in
          let P : List SegmentSize → Type 0 = λ z. HasBytesFree z (bytes_to_leave w.size w.spacing) (block_at w m) in
          let Q : ℕ → Type 0 = λ k. HasBytesFree v.sizes k (block_at w m) in
          subst P (sym c.sizes) (subst Q (sym need) want);
    }

-- where one block of the image has changed
changed-one : (v w : VolumeState) (n : ℕ) → w.size ≡ v.size → w.sizes ≡ v.sizes → w.spacing ≡ v.spacing
    → (header_of w.image).count ≡ (header_of v.image).count → (header_of w.image).largest ≡ (header_of v.image).largest → ChangesBlock v.size n v.image w.image → HasOne v w n
changed-one v w n size sizes spacing count largest c = record {
  size = size;
  sizes = sizes;
  spacing = spacing;
  count = omega arith;
  largest = largest;
  others = λ m there later other.
      let old : HasBlock v.size v.image m = (let l = c.len in omega arith) in
      inr (old, ap (λ (z : ℕ). block_of z w.image m) size ∙ c.others m old other);
}

-- where it has grown, too
grown-one : (v w : VolumeState) (n : ℕ) → w.size ≡ v.size → w.sizes ≡ v.sizes → w.spacing ≡ v.spacing → IsFormatted v → IsFormatted w → 0 < v.size → MayGrow v n w
    → ((m : ℕ) → HasBlock v.size v.image m → 0 < m → m ≢ n → block_at w m ≡ block_at v m) → HasOne v w n
grown-one v w n size sizes spacing f fw some g blocks = record {
  size = size;
  sizes = sizes;
  spacing = spacing;
  count = grown-count n g;
  largest = ap (λ (h : Header). h.largest) g.header;
  others = λ m there later other.
      elim (cases_lt m (header_of v.image).count) [
        | inl low ↦
            (let fits : m * v.size + v.size ≤ (header_of v.image).count * v.size = row_fits m v.size (header_of v.image).count v.size low (omega arith) in
            let whole = f.header.whole in
            let old : HasBlock v.size v.image m = omega arith in
            inr (old, blocks m old later other))
        | inr high ↦ inl (g.passed m high (counted w m fw (rw size some) (rw size there)) other)
      ];
}

-- ---- what the block has

-- a data block in which no less is free
own-data : (v w : VolumeState) (n : ℕ) → w.sizes ≡ v.sizes → IsKind v 1 n → KeepsFree v w n → HasSpace v
    → (IsLeftOut v.spacing n → IsKind w 3 n) × (IsKind w 1 n → HasBytesFree v.sizes (bytes_to_leave v.size v.spacing) (block_at w n))
own-data v w n sizes is keeps s = (
  λ out. (let three = s.blocks n is.there is.later out in absurd (let a = three.kind_is in let b = is.kind_is in omega arith)),
  λ k. (let P : List SegmentSize → Type 0 = λ z. HasBytesFree z (bytes_to_leave v.size v.spacing) (block_at w n) in subst P sizes (keeps (bytes_to_leave v.size v.spacing) (s.bytes n is))),
)

-- a block that is of a kind behind it, and that was not to be left free unless it is
own-other : (v w : VolumeState) (n kind : ℕ) → kind ≢ 1 → IsKind w kind n → (IsLeftOut v.spacing n → IsKind w 3 n)
    → (IsLeftOut v.spacing n → IsKind w 3 n) × (IsKind w 1 n → HasBytesFree v.sizes (bytes_to_leave v.size v.spacing) (block_at w n))
own-other v w n kind apart is out = (out, λ one. absurd (apart (sym is.kind_is ∙ one.kind_is)))

-- ---- the space that a call leaves

-- the volume leaves what it left, or is to leave none
by-spacing : (v w : VolumeState) → (w.spacing ≡ v.spacing) ⊎ IsPlain w → (w.spacing ≡ v.spacing → HasLeft v → HasLeft w) → HasLeft v → HasLeft w
by-spacing v w (inl same) own h = own same h
by-spacing v w (inr plain) own h = plain-space w plain

pub written-leaves : (v w : VolumeState) (a o : ℕ) (bs : List ℕ) → w.size ≡ v.size → w.sizes ≡ v.sizes → (w.spacing ≡ v.spacing) ⊎ IsPlain w → IsKind v 1 (a / v.size) → IsWritten v a o bs w → HasLeft v → HasLeft w
written-leaves v w a o bs size sizes spacing is x =
    by-spacing v w spacing (λ same. one-space v w (a / v.size)
    (changed-one v w (a / v.size) size sizes same (ap (λ (h : Header). h.count) x.header) (ap (λ (h : Header). h.largest) x.header) x.block)
    (λ s there later. own-data v w (a / v.size) sizes is x.free s))

pub freed-leaves : (v w : VolumeState) (a : ℕ) → w.size ≡ v.size → w.sizes ≡ v.sizes → (w.spacing ≡ v.spacing) ⊎ IsPlain w → IsKind v 1 (a / v.size) → IsFreed v a w → HasLeft v → HasLeft w
freed-leaves v w a size sizes spacing is x =
    by-spacing v w spacing (λ same. one-space v w (a / v.size)
    (changed-one v w (a / v.size) size sizes same (ap (λ (h : Header). h.count) x.header) (ap (λ (h : Header). h.largest) x.header) x.block)
    (λ s there later. own-data v w (a / v.size) sizes is x.free s))

-- a segment that was replaced where it stands
pub rewritten-leaves : (v w : VolumeState) (a : ℕ) (bs : List ℕ) → w.size ≡ v.size → w.sizes ≡ v.sizes → (w.spacing ≡ v.spacing) ⊎ IsPlain w → IsFormatted v → 0 < v.size → IsKind v 1 (a / v.size) → IsRewritten v a a bs w
    → HasLeft v → HasLeft w
rewritten-leaves v w a bs size sizes spacing f some is x =
    by-spacing v w spacing (λ same. one-space v w (a / v.size)
    (grown-one v w (a / v.size) size sizes same f x.formatted some x.grows (λ m there later other. x.blocks m there later other other))
    (λ s there later. own-data v w (a / v.size) sizes is (x.free refl) s))

pub given-leaves : (v w : VolumeState) (n : ℕ) → w.size ≡ v.size → w.sizes ≡ v.sizes → (w.spacing ≡ v.spacing) ⊎ IsPlain w → IsGivenBlock v n w → HasLeft v → HasLeft w
given-leaves v w n size sizes spacing x =
    by-spacing v w spacing (λ same. one-space v w n
    (changed-one v w n size sizes same (ap (λ (h : Header). h.count) x.header) (ap (λ (h : Header). h.largest) x.header) x.block)
    (λ s there later. own-other v w n 3 (λ e. omega arith) x.is (λ out. x.is)))

pub block-leaves : (v w : VolumeState) (n offset : ℕ) (bs : List ℕ) → w.size ≡ v.size → w.sizes ≡ v.sizes → (w.spacing ≡ v.spacing) ⊎ IsPlain w → IsKind v 2 n → IsWrittenBlock v n offset bs w → HasLeft v → HasLeft w
block-leaves v w n offset bs size sizes spacing was x =
    by-spacing v w spacing (λ same. one-space v w n
    (changed-one v w n size sizes same (ap (λ (h : Header). h.count) x.header) (ap (λ (h : Header). h.largest) x.header) x.block)
    (λ s there later. own-other v w n 2 (λ e. omega arith) x.is
    (λ out. let three = s.blocks n was.there was.later out in absurd (let a = three.kind_is in let b = was.kind_is in omega arith))))

-- a header with the same counts of blocks
pub header-leaves : (v w : VolumeState) (header : Header) → w.size ≡ v.size → w.sizes ≡ v.sizes → (w.spacing ≡ v.spacing) ⊎ IsPlain w
    → header.count ≡ (header_of v.image).count → header.largest ≡ (header_of v.image).largest → HasNewHeader v header w → HasLeft v → HasLeft w
header-leaves v w header size sizes spacing count largest x =
    by-spacing v w spacing (λ same. one-space v w 0
    (changed-one v w 0 size sizes same (ap (λ (h : Header). h.count) x.is ∙ count) (ap (λ (h : Header). h.largest) x.is ∙ largest) x.block)
    (λ s there later. absurd (omega arith)))

-- an index block that was not to be left free
pub taken-leaves : (v w : VolumeState) (n level : ℕ) → w.size ≡ v.size → w.sizes ≡ v.sizes → (w.spacing ≡ v.spacing) ⊎ IsPlain w → IsFormatted v → 0 < v.size → IsTakenBlock v n level w
    → ((header_of w.image).count + 2 ≤ (header_of w.image).largest → IsLeftOut w.spacing n → ⊥) → HasLeft v → HasLeft w
taken-leaves v w n level size sizes spacing f some x may =
    by-spacing v w spacing (λ same h more. one-space v w n (grown-one v w n size sizes same f x.formatted some x.grows x.others)
    (λ s there later. own-other v w n 2 (λ e. omega arith) x.is (λ out. absurd (may more (rw same out)))) h more)

-- a segment that was put where it may be
pub put-leaves : (u v w : VolumeState) (n a : ℕ) (bs : List ℕ) → v.size ≡ u.size → v.sizes ≡ u.sizes → w.size ≡ u.size → w.sizes ≡ u.sizes → w.spacing ≡ v.spacing → (v.spacing ≡ u.spacing) ⊎ IsPlain v
    → IsFormatted u → 0 < u.size → IsPut u a bs w → a / u.size ≡ n → step.IsPutIn v n a bs w → IsOpenFor v n (length bs) → HasLeft u → HasLeft w
put-leaves u v w n a bs size sizes size' sizes' kept spacing f some x at p open-for h more =
    let joined : (w.spacing ≡ u.spacing) ⊎ IsPlain w = elim spacing [ inl e ↦ inl (kept ∙ e) | inr plain ↦ inr (kept ∙ plain) ] in
    let header : header_of w.image ≡ header_of v.image = p.header in
    let count : (header_of w.image).count ≡ (header_of v.image).count = ap (λ (k : Header). k.count) header in
    let largest : (header_of w.image).largest ≡ (header_of v.image).largest = ap (λ (k : Header). k.largest) header in
    let few : (header_of v.image).count + 2 ≤ (header_of v.image).largest = omega arith in
    let may = open-for few in
    let G : ℕ → Type 0 = λ k. MayGrow u k w in
    by-spacing u w joined (λ same left.
    let own : v.spacing ≡ u.spacing = sym kept ∙ same in
    one-space u w n
    (grown-one u w n size' sizes' same f x.formatted some (subst G at x.grows) (λ m there later other. x.blocks m there later (λ e. other (e ∙ at))))
    (λ s there later. (
      λ out. absurd (may.0 (let S : FreeSpace → Type 0 = λ z. IsLeftOut z n in subst S (sym own) out)),
      λ k.
          let need : bytes_to_leave v.size v.spacing ≡ bytes_to_leave u.size u.spacing = rw (size, own) refl in
          let P : List SegmentSize → Type 0 = λ z. HasBytesFree z (bytes_to_leave u.size u.spacing) (block_at w n) in
          subst P sizes' (elim may.1 [
            | inl none ↦ inl (p.alone none)
            | inr big ↦ inr (let sum = p.free in omega arith)
          ]),
    )) left) h more

-- ---- blocks that are open for a segment

-- where no space is left, each block with a hole
pub plain-open : (v : VolumeState) (n need : ℕ) → IsPlain v → step.HasRoom v n need → IsOpenFor v n need
plain-open v n need plain r few =
    let none : bytes_to_leave v.size v.spacing ≡ 0 = ap (λ (s : FreeSpace). v.size * s.fspf / 100) plain ∙ (let e : v.size * 0 / 100 ≡ 0 = rw (let z : v.size * 0 ≡ 0 = omega arith in z) refl in e) in
    let most = largest-free (parts_in v.sizes (block_at v n)) in
    let large = r.large in
    (λ out. (let l : 1 < no_spacing.fbff = subst (λ (s : FreeSpace). 1 < s.fbff) plain out.0 in absurd (omega arith)), inr (omega arith))

-- else a data block that may take it
pub hole-open : (v w : VolumeState) (n need : ℕ) → AreOne v w → w.spacing ≡ v.spacing → IsKind v 1 n → MayTake v.sizes (bytes_to_leave v.size v.spacing) need (block_at v n) → HasLeft v → IsOpenFor w n need
hole-open v w n need o spacing is take left few =
    let count = one-count o in
    let largest : (header_of w.image).largest ≡ (header_of v.image).largest = ap (λ (i : List ℕ). (header_of i).largest) o.image in
    let s = left (omega arith) in
    let leave : bytes_to_leave w.size w.spacing ≡ bytes_to_leave v.size v.spacing = rw (o.same.size, spacing) refl in
    let P : List ℕ → Type 0 = λ b. MayTake w.sizes (bytes_to_leave w.size w.spacing) need b in
    let Q : List SegmentSize → Type 0 = λ z. MayTake z (bytes_to_leave w.size w.spacing) need (block_at v n) in
    let R : ℕ → Type 0 = λ k. MayTake v.sizes k need (block_at v n) in (
      λ out. (let O : FreeSpace → Type 0 = λ z. IsLeftOut z n in let three = s.blocks n is.there is.later (subst O spacing out) in absurd (let a = three.kind_is in let b = is.kind_is in omega arith)),
      subst P (sym (one-block o n)) (subst Q (sym o.same.sizes) (subst R (sym leave) take)),
    )

-- ---- calls

-- what holds where a call is answered, by what held of the answer
pub on-ok-map : {A : Type 0} {P Q : Type 0} (r : Result A Refused) → (P → Q) → OnOk r P → OnOk r Q
on-ok-map (Ok x) f h = f h
on-ok-map (Err e) f h = tt

pub on-ok-two : {A : Type 0} {P Q : A → Type 0} {R : Type 0} (r : Result A Refused) → ((x : A) → P x → Q x → R) → IfOk r P → IfOk r Q → OnOk r R
on-ok-two (Ok x) f h k = f x h k
on-ok-two (Err e) f h k = tt

pub ok-both : {A : Type 0} (P : Type 0) (Q : A → Type 0) (r : Result A Refused) → OnOk r P → IfOk r Q → IfOk r (λ x. P × Q x)
ok-both P Q (Ok x) h k = (h, k)
ok-both P Q (Err e) h k = tt

-- what a call does to the space that is left, by what it does where it is sound
left-on : {u w : VolumeState} → (IsTrue w.is_sound → IsTrue u.is_sound) → KeepsSpacing u w → (IsTrue w.is_sound → HasLeft u → HasLeft w) → (s : FreeSpace) → LeavesSpace s u → LeavesSpace s w
left-on {u} {w} back (inl same) own s l = record { left = λ sound is. own sound (l.left (back sound) (sym same ∙ is)) }
left-on {u} {w} back (inr plain) own s l = record { left = λ sound is. plain-space w plain }

plain-on : (u w : VolumeState) → KeepsSpacing u w → IsPlain u → IsPlain w
plain-on u w (inl same) plain = same ∙ plain
plain-on u w (inr none) plain = none

-- a number of the header was set, which counts no blocks
pub header-space : {v w : VolumeState} (header : Header) → w.size ≡ v.size → w.sizes ≡ v.sizes → w.spacing ≡ v.spacing → w.is_sound ≡ v.is_sound → header.count ≡ (header_of v.image).count
    → header.largest ≡ (header_of v.image).largest → (IsTrue v.is_sound → HasNewHeader v header w) → (s : FreeSpace) → LeavesSpace s v → LeavesSpace s w
header-space {v} {w} header size sizes spacing sound count largest set =
    let back = λ (now : IsTrue w.is_sound). (let b : IsTrue v.is_sound = rw (← sound) now in b) in
    left-on back (inl spacing) (λ now. header-leaves v w header size sizes (inl spacing) count largest (set (back now)))

-- a call that only an access may end
pub device-call : {A : Type 0} {u w : VolumeState} (r : Result A Refused) → IsStep {T = A} u r w → KeepsSpacing u w → OnlyDevice r → OnOk r (IsTrue u.is_sound → HasLeft u → HasLeft w) → IsCall {T = A} u r w
device-call {A} {u} {w} (Ok x) s k d h =
    let back = λ (now : IsTrue w.is_sound). (let b : IsTrue u.is_sound = rw (← s.sound) now in b) in
    record { counts = s.counts; sound = s.sound; committed = s.committed; size = s.size; sizes = s.sizes; first = s.first; plain = plain-on u w k; space = left-on back k (λ now. h (back now)) }
device-call {A} {u} {w} (Err e) s k d h =
    let gone : w.is_sound ≡ false = (let P : Refused → Type 0 = λ f. SoundFor f u.is_sound w.is_sound in subst P d s.sound) in
    record {
      counts = s.counts;
      sound = s.sound;
      committed = s.committed;
      size = s.size;
      sizes = s.sizes;
      first = s.first;
      plain = plain-on u w k;
      space = λ t l. record { left = λ now. absurd (let none : IsTrue false = rw gone at now in cc) };
    }

-- one that leaves the image where it is refused
pub kept-call : {A : Type 0} {u w : VolumeState} (r : Result A Refused) → IsStep {T = A} u r w → KeepsSpacing u w → IfErr r (λ _. IsTrue w.is_sound → w.image ≡ u.image) → OnOk r (IsTrue u.is_sound → HasLeft u → HasLeft w)
    → IsCall {T = A} u r w
kept-call {A} {u} {w} (Ok x) s k d h =
    let back = λ (now : IsTrue w.is_sound). (let b : IsTrue u.is_sound = rw (← s.sound) now in b) in
    record { counts = s.counts; sound = s.sound; committed = s.committed; size = s.size; sizes = s.sizes; first = s.first; plain = plain-on u w k; space = left-on back k (λ now. h (back now)) }
kept-call {A} {u} {w} (Err e) s k d h = record {
  counts = s.counts;
  sound = s.sound;
  committed = s.committed;
  size = s.size;
  sizes = s.sizes;
  first = s.first;
  plain = plain-on u w k;
  space = left-on (λ now. was-sound e u.is_sound w.is_sound s.sound now) k (λ now. by-spacing u w k (λ same. space-same u w s.size s.sizes (d now) same));
}

memory-one : {A : Type 0} {u w : VolumeState} (r : Result A Refused) → OnlyMemory r → w.failures ≡ u.failures → w.is_sound ≡ u.is_sound → w.committed ≡ u.committed → w.size ≡ u.size → w.sizes ≡ u.sizes
    → (IsTrue w.is_sound → KeepsFirst u.size u.stored w.stored) → (IsPlain u → IsPlain w) → ((s : FreeSpace) → LeavesSpace s u → LeavesSpace s w) → IsCall {T = A} u r w
memory-one (Ok x) m failures sound committed size sizes first plain space = record { counts = failures; sound = sound; committed = committed; size = size; sizes = sizes; first = first; plain = plain; space = space }
memory-one {A} {u} {w} (Err e) m failures sound committed size sizes first plain space = record {
  counts = (let P : Refused → Type 0 = λ f. CountsFor f u.failures w.failures in subst P (sym m) failures);
  sound = (let P : Refused → Type 0 = λ f. SoundFor f u.is_sound w.is_sound in subst P (sym m) sound);
  committed = committed;
  size = size;
  sizes = sizes;
  first = first;
  plain = plain;
  space = space;
}

-- one that only want of memory may end, and that changes no byte
pub memory-call : {A : Type 0} {u w : VolumeState} (r : Result A Refused) → OnlyMemory r → w.failures ≡ u.failures → w.is_sound ≡ u.is_sound → w.committed ≡ u.committed → w.size ≡ u.size → w.sizes ≡ u.sizes → w.spacing ≡ u.spacing
    → (IsTrue u.is_sound → (w.image ≡ u.image) × (w.stored ≡ u.stored)) → IsCall {T = A} u r w
memory-call {A} {u} {w} r m failures sound committed size sizes spacing same =
    let back = λ (now : IsTrue w.is_sound). (let b : IsTrue u.is_sound = rw (← sound) now in b) in
    let first = λ (now : IsTrue w.is_sound). (let P : List ℕ → Type 0 = λ s. KeepsFirst u.size u.stored s in subst P (sym (same (back now)).1) (record { len = omega arith; first = λ there. refl })) in
    memory-one r m failures sound committed size sizes first (λ p. spacing ∙ p) (left-on back (inl spacing) (λ now. space-same u w size sizes (same (back now)).0 spacing))

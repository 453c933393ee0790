-- A segment of a volume that is replaced by another.
use Rattle.std.proofs.Common.{◌≡◌, ◌≢◌, ◌⊎◌, inl, inr, ℕ, ◌+◌, ◌-◌, ◌*◌, ◌/◌, ◌%◌, ◌<◌, ◌≤◌, List, length, slice_index, Option, Some, None, refl, sym, ap, ◌∙◌, arith, subst}
use Rattle.hd_bytes.specs.Ranges.{with_bytes}
use Rattle.hd_bytes.specs.Blocks.{block_of, HasBlock}
use Rattle.hd_bytes.proofs.BlockLemmas.{length-block}
use Rattle.hd_volume.specs.declared.space.Space.{Space}
use Rattle.hd_volume.specs.Edits.{IsGiven}
use Rattle.hd_volume.specs.Images.{ChangesBlock}
use Rattle.hd_volume.specs.Headers.{Header, header_of}
use Rattle.hd_volume.specs.Volumes.{VolumeState, block_at, kind_of, IsKind, IsFormatted}
use Rattle.hd_volume.specs.Records.{find}
use Rattle.hd_volume.specs.Rooms.{spare}
use Rattle.hd_volume.specs.Spaces.{IsSpaceOf}
use Rattle.hd_volume.specs.Steps.{IsShorter}
use Rattle.hd_volume.specs.Calls.{KeepsOthers, KeepsHoles, KeepsFree, KeepsUnused, HasUnused, MayGrow, KeepsSize, HasSegment, IsWritten, IsFreed, IsPut, IsRewritten}
use Rattle.hd_volume.proofs.MapLemmas.{IsFound, find-some, find-there, kind-there}
use Rattle.hd_volume.proofs.ExtentLemmas.{segment-some}
use Rattle.hd_volume.proofs.ShrinkLemmas.{IsShrunkIn, shrink-edits, with-all}
use Rattle.hd_volume.proofs.FrameLemmas.{AreSame, HasChanged, block-seen, keeps-header, keeps-spare, keeps-formatted, keeps-holes, keeps-free}
use Rattle.hd_volume.proofs.CallLemmas.{find-new, keeps-others, write-writes, write-space, IsOpened, opened-space, looked-at}
use Rattle.hd_volume.proofs.JoinLemmas.{AreOne, one-block, one-kind, one-back, one-segments, one-spare, one-holes, one-count, one-free, unused-on, unused-after, grows-after, grows-through, grown-count}
use Rattle.hd_volume.specs.Spacing.{IsPlain}
use Rattle.hd_volume.proofs.FreeLemmas.{stays-free}
use Rattle.std.proofs.Math.Nat.{mul-le-mul_right}
use Rattle.std.proofs.lemmas.Bool.{cases_eq}
use Rattle.hd_block.specs.Sizes.{size_at}

-- ---- in its place

-- a segment that was replaced in its place, in its block alone
in-place : (v w : VolumeState) (a : ℕ) (bs : List ℕ) → AreSame v w → IsFormatted v → (h : HasSegment v a 0) → length bs ≤ length h.bytes → IsFormatted w
    → find w a ≡ Some bs → KeepsOthers v w a → ChangesBlock v.size (a / v.size) v.image w.image → header_of w.image ≡ header_of v.image → spare w ≡ spare v
    → KeepsHoles v w → KeepsFree v w (a / v.size) → KeepsUnused v w (a / v.size) → IsRewritten v a a bs w
in-place v w a bs s f h fits fw is others c header spares holes free unused =
    let there = find-there v a 0 f h in
    let count : (header_of w.image).count ≡ (header_of v.image).count = ap (λ (x : Header). x.count) header in
    record {
      formatted = fw;
      is = is;
      gone = λ other. absurd (other refl);
      stays = λ t e l. refl;
      moves = λ t e l. let one : t ≡ h.bytes = (let z : Some t ≡ Some h.bytes = sym e ∙ h.is in cc) in let same = ap length one in absurd (omega arith);
      others = λ b x y. others b x;
      data_block = subst (λ (z : ℕ). IsKind w 1 (a / z)) s.size (find-there w a 0 fw (record { bytes = bs; is = is; long = omega arith }));
      index = λ n k. block-seen s n ∙ c.others n k.there (λ e.
          let one : kind_of (block_at v n) ≡ 1 = ap (λ (i : ℕ). kind_of (block_at v i)) e ∙ there.kind_is in
          let two : kind_of (block_at v n) ≡ 2 = k.kind_is in
          omega arith);
      place = λ other. absurd (other refl);
      blocks = λ m t later x y. block-seen s m ∙ c.others m t x;
      grows = record { count = inl count; passed = λ m high low other. absurd (omega arith); header = header ∙ (let e : header_of v.image ≡ record (header_of v.image) { count = (header_of w.image).count } = rw count refl in e) };
      by_one = λ _. omega arith;
      spares = omega arith;
      in_hole = λ plain x. spares;
      free = λ e. free;
      in_place = λ x. (spares, holes);
      holes = λ n more x. let y = holes n x in let large = y.large in record { block = y.block; is_data = y.is_data; large = omega arith };
      unused = (λ _. unused, λ none. absurd (none there));
    }

-- one of as many bytes
module _ (v w : VolumeState) (a : ℕ) (bs : List ℕ) (f : IsFormatted v) (h : HasSegment v a 0) (least : 44 ≤ v.size) (c : HasChanged v w (a / v.size))
    (same : length h.bytes ≡ length bs) (code : size_at v.sizes bs 0 ≡ length bs) (new : block_of v.size w.image (a / v.size) ≡ with_bytes (block_at v (a / v.size)) (a % v.size) bs) where
  long : HasSegment v a (0 + length bs)
  long = record { bytes = h.bytes; is = h.is; long = omega arith }

  all : (s : List ℕ) → find v a ≡ Some s → with_bytes s 0 bs ≡ bs
  all s e = let one : s ≡ h.bytes = (let z : Some s ≡ Some h.bytes = sym e ∙ h.is in cc) in with-all s bs (sym same ∙ ap length (sym one))

  sized : KeepsSize v a 0 bs
  sized s e =
      let one : s ≡ h.bytes = (let z : Some s ≡ Some h.bytes = sym e ∙ h.is in cc) in
      ap (λ (z : List ℕ). size_at v.sizes z 0) (all s e) ∙ code ∙ sym same ∙ ap length (sym one)

  placed : block_of v.size w.image (a / v.size) ≡ with_bytes (block_at v (a / v.size)) (a % v.size + 0) bs
  placed = new ∙ ap (λ (k : ℕ). with_bytes (block_at v (a / v.size)) k bs) (let z : a % v.size ≡ a % v.size + 0 = omega arith in z)

  pub same-rewrites : IsRewritten v a a bs w
  same-rewrites =
      let x : IsWritten v a 0 bs w = write-writes v w a 0 bs f long sized least c placed in
      in-place v w a bs c.same f h (omega arith) x.formatted (x.is h.bytes h.is ∙ ap (λ (z : List ℕ). Some z) (all h.bytes h.is)) x.others x.block x.header x.spares x.holes x.free x.unused

  pub same-space : (space : Space) → IsSpaceOf v.size v.sizes v.image space → IsSpaceOf v.size v.sizes w.image space
  same-space = write-space v w a 0 bs f long sized least c placed

-- a shorter one
module _ (v w : VolumeState) (a : ℕ) (bs : List ℕ) (f : IsFormatted v) (h : HasSegment v a 0) (least : 44 ≤ v.size) (c : HasChanged v w (a / v.size))
    (some : 8 ≤ length bs) (eighths : length bs % 8 ≡ 0) (less : length bs < length h.bytes) (code : size_at v.sizes bs 0 ≡ length bs)
    (given : IsGiven v.sizes (a % v.size + length bs) (length h.bytes - length bs) (with_bytes (block_at v (a / v.size)) (a % v.size) bs) (block_of v.size w.image (a / v.size))) where
  found : IsFound v a h.bytes
  found = find-some v a h.bytes h.is

  there : IsKind v 1 (a / v.size)
  there = find-there v a 0 f h

  shrunk : IsShrunkIn v.sizes (block_at v (a / v.size)) (block_of v.size w.image (a / v.size)) (a % v.size) bs
  shrunk =
      let x = f.divided (a / v.size) there in
      let s = segment-some v.sizes (block_at v (a / v.size)) x.extents x.divides x.whole (a % v.size) h.bytes found.segment in
      shrink-edits v.sizes (block_at v (a / v.size)) (block_of v.size w.image (a / v.size)) x.extents (a % v.size) (length h.bytes) bs x.divides x.whole s.0 some eighths less code given

  pub shrink-rewrites : IsRewritten v a a bs w
  shrink-rewrites =
      let later : a / v.size ≢ 0 = found.later in
      let header = keeps-header c f.header least later in
      let positive : 0 < v.size = omega arith in
      let is : kind_of (block_of v.size w.image (a / v.size)) ≡ 1 = shrunk.kind ∙ found.kind in
      in-place v w a bs c.same f h (omega arith) (keeps-formatted c f.header f header shrunk.kind (λ _. record { extents = shrunk.extents; divides = shrunk.divides; whole = shrunk.whole }))
      (find-new v w c.same a later is ∙ shrunk.is) (keeps-others v w a c f.header positive later found.kind is shrunk.others) c.change header (keeps-spare c f.header header shrunk.kind)
      (keeps-holes c f.header shrunk.kind (λ _. shrunk.holes))
      (keeps-free c.same (a / v.size) (stays-free v.sizes (block_at v (a / v.size)) (block_of v.size w.image (a / v.size))
      (λ p some none. elim (cases_eq p (a % v.size)) [ inl e ↦ shrunk.was (rw e at none) | inr other ↦ some (shrunk.others p other ∙ none) ]) shrunk.free_bytes))
      (λ k l u. shrunk.unused k l u ∙ ap (λ (b : List ℕ). slice_index b k) (sym (block-seen c.same (a / v.size))))

  pub shrink-space : (space new-space : Space) (hole : ℕ) → IsSpaceOf v.size v.sizes v.image space → IsOpened space (a / v.size) hole new-space
      → new-space.free ≡ space.free → new-space.lowest_free ≡ space.lowest_free → hole ≡ v.size → IsSpaceOf v.size v.sizes w.image new-space
  shrink-space space new-space hole k o free-is lowest-is whole =
      let positive : 0 < v.size = omega arith in
      let len = length-block v.size (a / v.size) w.image (let t = there.there in let l = c.change.len in omega arith) in
      let most = shrunk.most in
      opened-space v w (a / v.size) hole space new-space c f.header k o free-is lowest-is found.later found.kind (shrunk.kind ∙ found.kind) (looked-at v (a / v.size) f.header positive there.there) (omega arith)

-- ---- elsewhere

-- a volume into which a segment was put is no shorter
put-longer : {u v : VolumeState} (n : ℕ) (bs : List ℕ) → IsFormatted u → IsPut u n bs v → v.size ≡ u.size → length u.image ≤ length v.image
put-longer {u} {v} n bs f p size =
    let a = f.header.whole in
    let b : length v.image ≡ (header_of v.image).count * u.size = p.formatted.header.whole ∙ (let e : (header_of v.image).count * v.size ≡ (header_of v.image).count * u.size = rw size refl in e) in
    let more : (header_of u.image).count * u.size ≤ (header_of v.image).count * u.size = mul-le-mul_right u.size (grown-count (n / u.size) p.grows) in
    omega arith

-- a segment is put where there was none
put-apart : {u v : VolumeState} (a to : ℕ) (bs : List ℕ) → HasSegment u a 0 → IsPut u to bs v → to ≢ a
put-apart {u} {v} a to bs h p e =
    let none : ◌≡◌ {A = Option (List ℕ)} None (Some h.bytes) = sym p.was ∙ ap (λ (i : ℕ). find u i) e ∙ h.is in
    let f : ⊥ = cc in
    f

-- its block is there
put-block : {u v : VolumeState} (to : ℕ) (bs : List ℕ) → IsPut u to bs v → v.size ≡ u.size → HasBlock v.size v.image (to / u.size)
put-block {v = v} to bs p size =
    let k = find-there v to 0 p.formatted (record { bytes = bs; is = p.is; long = omega arith }) in
    subst (λ (z : ℕ). HasBlock v.size v.image (to / z)) size k.there

-- so the old one still stands
pub put-there : {u v : VolumeState} (a to : ℕ) (bs : List ℕ) → HasSegment u a 0 → IsPut u to bs v → HasSegment v a 0
put-there a to bs h p = record { bytes = h.bytes; is = p.others a (λ e. put-apart a to bs h p (sym e)) ∙ h.is; long = omega arith }

-- a longer segment that was put elsewhere before the old one was freed
pub move-rewrites : {u v w : VolumeState} (a to : ℕ) (bs : List ℕ) → IsFormatted u → HasSegment u a 0 → IsShorter u a bs → v.size ≡ u.size → AreSame v w → IsPut u to bs v → IsFreed v a w → IsRewritten u a to bs w
move-rewrites {u} {v} {w} a to bs f h shorter size s p r =
    let apart = put-apart a to bs h p in
    let held = find-there v a 0 p.formatted (put-there a to bs h p) in
    let longer = put-longer to bs f p size in
    let at : a / v.size ≡ a / u.size = ap (λ (z : ℕ). a / z) size in
    let same : header_of w.image ≡ header_of v.image = r.header in
    let count : (header_of w.image).count ≡ (header_of v.image).count = ap (λ (x : Header). x.count) same in
    record {
      formatted = r.formatted;
      is = r.others to apart ∙ p.is;
      gone = λ x. (p.was, r.gone);
      stays = λ t e l. let less = shorter t e in absurd (omega arith);
      moves = λ t e l. apart;
      data_block = subst (λ (z : ℕ). IsKind w 1 (a / z)) size (record { there = (let t = held.there in let l = r.block.len in rw s.size (omega arith)); later = held.later; kind_is = r.kinds (a / v.size) ∙ held.kind_is });
      others = λ b x y. r.others b x ∙ p.others b y;
      index = λ n k.
          let first = p.index n k in
          let two : kind_of (block_at v n) ≡ 2 = ap kind_of first ∙ k.kind_is in
          let other : n ≢ a / v.size = λ e. (let one : kind_of (block_at v n) ≡ 1 = ap (λ (i : ℕ). kind_of (block_at v i)) e ∙ held.kind_is in omega arith) in
          let there : HasBlock v.size v.image n = kind-there v.size n (header_of v.image).count 2 v.image p.formatted.header.whole (λ e. omega arith) two in
          block-seen s n ∙ r.block.others n there other ∙ first;
      place = λ x. p.place;
      blocks = λ m t later x y.
          let there : HasBlock v.size v.image m = rw size (omega arith) in
          block-seen s m ∙ r.block.others m there (λ e. x (e ∙ at)) ∙ p.blocks m t later y;
      grows = grows-through (to / u.size) p.grows r.header (λ m other three. record { there = (let t = three.there in let l = r.block.len in rw s.size (omega arith)); later = three.later; kind_is = r.kinds m ∙ three.kind_is });
      by_one = λ plain. (let few = p.by_one plain in omega arith);
      spares = let x = p.spares in let y = r.spares in omega arith;
      in_hole = λ plain x. r.spares ∙ p.in_hole plain x;
      free = λ e. absurd (apart e);
      in_place = λ e. absurd (apart e);
      holes = λ n more x. r.holes (n - length bs) (p.holes n more x);
      unused = unused-on u v w (to / u.size) p.unused (elim (cases_eq (to / u.size) (a / v.size)) [
        | inl same ↦ (let K : ℕ → Type 0 = λ k. KeepsUnused v w k in subst K (sym same) r.unused)
        | inr other ↦ λ k l b. ap (λ (z : List ℕ). slice_index z k) (sym (block-seen s (to / u.size) ∙ r.block.others (to / u.size) (put-block to bs p size) other))
      ]);
    }

-- ---- after a call that only read

pub rewritten-after : {v w u : VolumeState} (o : AreOne v w) → (IsPlain v → IsPlain w) → (a to : ℕ) (bs : List ℕ) → IsRewritten w a to bs u → IsRewritten v a to bs u
rewritten-after {v} {w} {u} o plain-on a to bs r =
    let block : to / w.size ≡ to / v.size = ap (λ (z : ℕ). to / z) o.same.size in
    let from : a / w.size ≡ a / v.size = ap (λ (z : ℕ). a / z) o.same.size in
    record {
      formatted = r.formatted;
      is = r.is;
      gone = λ x. let g = r.gone x in (sym (one-segments o to) ∙ g.0, g.1);
      stays = λ t e l. r.stays t (one-segments o a ∙ e) l;
      moves = λ t e l. r.moves t (one-segments o a ∙ e) l;
      data_block = subst (λ (n : ℕ). IsKind u 1 n) from r.data_block;
      others = λ b x y. r.others b x y ∙ one-segments o b;
      index = λ n k. r.index n (one-kind o 2 n k) ∙ one-block o n;
      place = λ x.
          let P : ℕ → Type 0 = λ n. IsKind v 1 n ⊎ IsKind v 3 n ⊎ ((header_of v.image).count ≤ n) in
          subst P block (elim (r.place x) [
            | inl k ↦ inl (one-back o 1 (to / w.size) k)
            | inr (inl k) ↦ inr (inl (one-back o 3 (to / w.size) k))
            | inr (inr e) ↦ inr (inr (rw (one-count o) at e))
          ]);
      blocks = λ m t later x y.
          let there : HasBlock w.size w.image m = (let l : length w.image ≡ length v.image = ap length o.image in rw o.same.size (omega arith)) in
          r.blocks m there later (λ e. x (e ∙ from)) (λ e. y (e ∙ block)) ∙ one-block o m;
      grows = (let G : ℕ → Type 0 = λ k. MayGrow v k u in subst G block (grows-after o (to / w.size) r.grows));
      by_one = λ plain. (let few = r.by_one (plain-on plain) in let same = one-count o in omega arith);
      spares = let e = one-spare o in let x = r.spares in omega arith;
      in_hole = λ plain h. r.in_hole (plain-on plain) (one-holes o (length bs) h) ∙ one-spare o;
      free = λ e. (let K : ℕ → Type 0 = λ n. KeepsFree v u n in subst K from (λ need h. r.free e need (one-free o (a / w.size) need h)));
      in_place = λ e. let p = r.in_place e in (p.0 ∙ one-spare o, λ n h. p.1 n (one-holes o n h));
      holes = λ n more h. r.holes n more (one-holes o n h);
      unused = (let P : ℕ → Type 0 = λ n. HasUnused v u n in subst P block (unused-after u o (to / w.size) r.unused));
    }

-- The twins of a block, by its bytes and by the records of the volume.
use Rattle.std.proofs.Common.{◌≡◌, ℕ, zero, suc, ◌+◌, ◌-◌, ◌*◌, ◌/◌, ◌%◌, ◌<◌, ◌≤◌, List, length, slice_index, true, false, Ok, Some, IsTrue, ap, sym, ◌∙◌, refl, subst, arith, inl}
use Rattle.std.specs.Ordering.{nat_cmp, is_lt}
use Rattle.std.specs.Cmp.Lexicographic.{slice_cmp}
use Rattle.std.proofs.Math.Nat.{div-mul-le_self, mod-eq-sub-div-mul, mul-le-mul_right}
use Rattle.std.proofs.lemmas.Nat.{div-mul-add}
use Rattle.hd_bytes.specs.Ranges.{bytes_at}
use Rattle.hd_bytes.specs.Numbers.{number_at}
use Rattle.hd_bytes.specs.Blocks.{HasBlock, block_of}
use Rattle.hd_bytes.proofs.NumberLemmas.{number-moved}
use Rattle.hd_bytes.proofs.BlockLemmas.{byte-at, length-block}
use Rattle.hd_dbd.specs.Types.{SegmentType}
use Rattle.hd_dbd.specs.Hierarchy.{Database}
use Rattle.hd_dbd.specs.Rows.{key_of}
use Rattle.hd_dbd.specs.Forest.{Forest}
use Rattle.hd_dbd.specs.Prefixes.{is_backward_kept}
use Rattle.hd_dbd.proofs.StoredSizes.{block_size-bounds}
use Rattle.hd_volume.specs.Volumes.{VolumeState, block_at, IsKind}
use Rattle.hd_volume.specs.Calls.{IsRead}
use Rattle.hd_volume.proofs.ExtentLemmas.{used-is, segment-some}
use Rattle.hd_volume.proofs.MapLemmas.{find-some, find-there}
use Rattle.hd_prefix.specs.declared.pointer.Pointer.TheVariants.{TwinForward, TwinBackward}
use Rattle.hd_prefix.specs.Fields.{code_of, pointer_of, bytes_of}
use Rattle.hd_links.specs.Links.{Links, IsSegment, segment_at}
use Rattle.hd_links.specs.Placed.{Placed, Holds}
use Rattle.hd_image.specs.Records.{links_of, IsVolumeOf}
use Rattle.hd_image.specs.Laws.{IsDatabase}
use Rattle.hd_image.proofs.Found.{segment-found}
use Rattle.hd_forest.specs.declared.twins.TwinPlaces.{TwinPlaces}
use Rattle.hd_forest.specs.declared.block_twins.Walk.{Walk}
use Rattle.hd_forest.specs.Twins.{IsBehind, is_key_below, IsTwinFrom, IsLastBelow}
use Rattle.hd_forest.specs.TwinPlaces.{twin_places}
use Rattle.hd_forest.specs.BlockTwins.{HasTwin, forward_in, key_in, is_below_in, twin_in, twin_before, AreBelowIn, IsWalk, IsWalkFrom, IsEqualFrom}
use Rattle.hd_forest.specs.BackTwins.{backward_in}
use Rattle.hd_forest.proofs.Chains.{passed}
use Rattle.hd_forest.proofs.Held.{held}
use Rattle.hd_forest.proofs.Reading.{lent}
use Rattle.hd_forest.proofs.Walking.{addressed, steps-found}
use Rattle.hd_forest.proofs.TwinsBelow.{range_in, places_read, HasPassed, passes_none, passes_more, passed_all, passed_to}

-- ---- one twin

-- What a block's bytes say of the twin at an address is what its record says.
pub record IsTwinOf (types : List SegmentType) (m : Links) (places : TwinPlaces) (block : List ℕ) (start : ℕ) (key : List ℕ) (a : ℕ) : Type 0 where
  pub there : HasTwin places block start a
  pub forward : forward_in places block start a ≡ m.forward a
  pub backward : (place : ℕ) → places.backward ≡ Some place → place + 4 ≤ places.key → (backward_in place block start a ≡ m.backward a) × (is_backward_kept types (m.code a) ≡ true)
  pub below : is_below_in places block start key a ≡ is_key_below types key (segment_at m a)
  pub key_is : key_in places block start a ≡ key_of types (segment_at m a)

-- the number at a place of a segment, in its block
number-in : (block s : List ℕ) (q o : ℕ) → s ≡ bytes_at block q (length s) → q + length s ≤ length block → o + 4 ≤ length s → number_at 4 block (q + o) ≡ number_at 4 s o
number-in block s q o is within long =
    number-moved 4 o (q + o) s block
    (λ k l.
    ap (slice_index block) (let e : q + o + k ≡ q + (o + k) = omega arith in e) ∙ sym (byte-at block q (length s) (o + k) within (omega arith)) ∙ ap (λ (b : List ℕ). slice_index b (o + k)) (sym is))

-- and its bytes there
range-of : (block s : List ℕ) (q o n : ℕ) → s ≡ bytes_at block q (length s) → o + n ≤ length s → bytes_at block (q + o) n ≡ bytes_at s o n
range-of block s q o n is long = sym (range_in block q (length s) o n long) ∙ ap (λ (b : List ℕ). bytes_at b o n) (sym is)

-- a twin stands in its block as its record says
pub twin-of : (d : Database) (v : VolumeState) (places : TwinPlaces) (key : List ℕ) (a : ℕ) → IsDatabase d → IsVolumeOf d v → IsSegment (links_of d.types v) a
    → twin_places d.types ((links_of d.types v).code a) ≡ Some places
    → IsTwinOf d.types (links_of d.types v) places (block_at v (a / v.size)) (a / v.size * v.size) key a
twin-of d v places key a fit of there are =
    let h = segment-found d v a fit of there in
    let s : List ℕ = h.bytes in
    let block : List ℕ = block_at v (a / v.size) in
    let q : ℕ = a % v.size in
    let kind = find-there v a 0 of.formatted (record { bytes = s; is = h.is; long = omega arith }) in
    let x = of.formatted.divided (a / v.size) kind in
    let u = segment-some v.sizes block x.extents x.divides x.whole q s (find-some v a s h.is).segment in
    let used = used-is v.sizes block 8 _ x.extents q (length s) x.divides u.0 in
    let within : q + length s ≤ length block = used.within in
    let l = lent d v a s fit of there h.is in
    let R = places_read d.block_size d.frspc d.types fit (code_of s) key s l.whole l.least places (ap (λ (b : List ℕ). twin_places d.types (code_of b)) (sym l.stored) ∙ are) in
    let at : a - a / v.size * v.size ≡ q = sym (mod-eq-sub-div-mul a v.size) in
    record {
      there = record { behind = div-mul-le_self a v.size; within = omega (arith, at, within, R.long, R.key_long) };
      forward = ap (λ (i : ℕ). number_at 4 block (i + places.forward)) at ∙ number-in block s q places.forward u.1 within R.long ∙ R.forward
          ∙ ap (λ (b : List ℕ). pointer_of d.types (code_of b) TwinForward b) (sym l.stored);
      backward = λ place kept room.
          (let B = R.backward place kept in (
            ap (λ (i : ℕ). number_at 4 block (i + place)) at ∙ number-in block s q place u.1 within (omega (arith, room, R.key_long)) ∙ B.0
                ∙ ap (λ (b : List ℕ). pointer_of d.types (code_of b) TwinBackward b) (sym l.stored),
            ap (λ (b : List ℕ). is_backward_kept d.types (code_of b)) l.stored ∙ B.1,
          ));
      below = ap (λ (i : ℕ). is_lt (slice_cmp nat_cmp (bytes_at block (i + places.key) places.length) key)) at
          ∙ ap (λ (b : List ℕ). is_lt (slice_cmp nat_cmp b key)) (range-of block s q places.key places.length u.1 R.key_long) ∙ R.key_is
          ∙ ap (λ (b : List ℕ). is_key_below d.types key (record { code = code_of b; bytes = bytes_of d.types (code_of b) b })) (sym l.stored);
      key_is = ap (λ (i : ℕ). bytes_at block (i + places.key) places.length) at
          ∙ range-of block s q places.key places.length u.1 R.key_long ∙ R.has_key
          ∙ ap (λ (b : List ℕ). key_of d.types (record { code = code_of b; bytes = bytes_of d.types (code_of b) b })) (sym l.stored);
    }

-- ---- one block

-- an address in a block has the block's number
block-is : (n size a : ℕ) → n * size ≤ a → a - n * size < size → a / size ≡ n
block-is n size a low high = ap (λ (x : ℕ). x / size) (let e : a ≡ n * size + (a - n * size) = omega arith in e) ∙ div-mul-add n size (a - n * size) high

-- a block behind block 0 does not begin at 0
begins : (n size : ℕ) → 0 < n → 0 < size → 0 < n * size
begins n size some long = let one : 1 * size ≤ n * size = mul-le-mul_right size some in omega arith

-- So many twins from p on were passed over, the last of them before the one that comes next.
pub record HasCome (types : List SegmentType) (m : Links) (f : Forest Placed) (key : List ℕ) (p turns before twin : ℕ) : Type 0 where
  pub passed : HasPassed types m f key p turns twin
  pub behind : IsBehind m p before twin
  pub below : 0 < before → is_key_below types key (segment_at m before) ≡ true

module _ (d : Database) (v : VolumeState) (f : Forest Placed) (fit : IsDatabase d) (of : IsVolumeOf d v) (holds : Holds d.types (links_of d.types v) f) (places : TwinPlaces) (key : List ℕ) (p : ℕ)
    (are : twin_places d.types ((links_of d.types v).code p) ≡ Some places) where
  abbrev m : Links
  m = links_of d.types v

  abbrev Come : ℕ → ℕ → ℕ → Type 0
  Come turns before twin = HasCome d.types m f key p turns before twin

  -- nothing was passed over
  pub comes-none : IsSegment m p → Come 0 0 p
  comes-none there = record { passed = passes_none d.types m f (addressed d v f fit of holds) key p there; behind = inl (refl, refl); below = λ some. absurd (omega arith) }

  -- the twin that comes next, in its block
  next-of : (turns before twin : ℕ) → Come turns before twin → 0 < twin → IsTwinOf d.types m places (block_at v (twin / v.size)) (twin / v.size * v.size) key twin
  next-of turns before twin H some = twin-of d v places key twin fit of (H.passed.there some) (ap (twin_places d.types) (H.passed.code some) ∙ are)

  -- one more
  comes-more : (turns before twin next : ℕ) → Come turns before twin → 0 < twin → is_key_below d.types key (segment_at m twin) ≡ true → next ≡ m.forward twin → Come (turns + 1) twin next
  comes-more turns before twin next H some below is = record {
    passed = passes_more d.types m f (addressed d v f fit of holds) key p (held d v fit of (f, holds)).linked.typed (steps-found d v f fit of holds) turns twin next H.passed some below is;
    behind = subst (IsBehind m p twin) (sym is) (passed m p before twin H.behind (H.passed.there some));
    below = λ more. below;
  }

  module _ (n : ℕ) (kind : IsKind v 1 n) where
    -- a twin that the block's bytes have is in the block
    pub in-block : (a : ℕ) → HasTwin places (block_at v n) (n * v.size) a → (0 < a) × (a / v.size ≡ n)
    in-block a has =
        let long : length (block_at v n) ≡ v.size = length-block v.size n v.image kind.there in
        let size : 128 ≤ v.size = (let b = (block_size-bounds d.block_size d.frspc d.types fit).0 in let e = of.size in omega arith) in
        let start = begins n v.size kind.later (omega arith) in
        let low : n * v.size ≤ a = has.behind in
        let high : a - n * v.size < v.size = (let w = has.within in omega arith) in (omega arith, block-is n v.size a low high)

    -- what the block's bytes say of it is what its record says
    said-of : (turns before twin : ℕ) → Come turns before twin → HasTwin places (block_at v n) (n * v.size) twin → IsTwinOf d.types m places (block_at v n) (n * v.size) key twin
    said-of turns before twin H has =
        let i = in-block twin has in subst (λ (k : ℕ). IsTwinOf d.types m places (block_at v k) (k * v.size) key twin) i.1 (next-of turns before twin H i.0)

    -- twins that the block's bytes have below the key were passed over
    comes-on : (turns before twin k : ℕ) → Come turns before twin → AreBelowIn places (block_at v n) (n * v.size) key k twin
        → Come (turns + k) (twin_before places (block_at v n) (n * v.size) k before twin) (twin_in places (block_at v n) (n * v.size) k twin)
    comes-on turns before twin zero H below = subst (λ (t : ℕ). Come t before twin) (let e : turns ≡ turns + 0 = omega arith in e) H
    comes-on turns before twin (suc k) H below =
        let a : ℕ = twin_in places (block_at v n) (n * v.size) k twin in
        let b : ℕ = twin_before places (block_at v n) (n * v.size) k before twin in
        let G = comes-on turns before twin k H below.0 in
        let T = said-of (turns + k) b a G below.1 in
        subst (λ (t : ℕ). Come t a (forward_in places (block_at v n) (n * v.size) a)) (let e : turns + k + 1 ≡ turns + suc k = omega arith in e)
        (comes-more (turns + k) b a (forward_in places (block_at v n) (n * v.size) a) G (in-block a below.1).0 (sym T.below ∙ below.2) T.forward)

  -- What a walk in a block came to.
  pub record HasWalked (turns twin : ℕ) (walk : Walk) : Type 0 where
    pub steps : ℕ
    pub come : Come (turns + steps) walk.before walk.twin
    pub ends : walk.is_found ≡ true → is_key_below d.types key (segment_at m walk.twin) ≡ false
    pub there : walk.is_found ≡ true → IsSegment m walk.twin
    pub key_is : walk.is_found ≡ true → key_in places (block_at v (twin / v.size)) (twin / v.size * v.size) walk.twin ≡ key_of d.types (segment_at m walk.twin)
    pub moves : walk.is_found ≡ false → 0 < steps

  -- a block has the twin that comes next
  pub block-there : (turns before twin : ℕ) → Come turns before twin → 0 < twin → IsKind v 1 (twin / v.size)
  block-there turns before twin H some =
      let h = segment-found d v twin fit of (H.passed.there some) in find-there v twin 0 of.formatted (record { bytes = h.bytes; is = h.is; long = omega arith })

  -- it is walked
  pub walked-in : (turns before twin : ℕ) (walk : Walk) → Come turns before twin → 0 < twin → IsWalkFrom v places key before twin walk → HasWalked turns twin walk
  walked-in turns before twin walk H some W =
      let n : ℕ = twin / v.size in
      let kind = block-there turns before twin H some in
      let G = comes-on n kind turns before twin W.steps H W.below in
      let come : Come (turns + W.steps) walk.before walk.twin = subst (λ (t : ℕ). Come (turns + W.steps) walk.before t) (sym W.twin) (subst (λ (b : ℕ). Come (turns + W.steps) b (twin_in places (block_at v n) (n * v.size) W.steps twin)) (sym W.before) G) in
      record {
        steps = W.steps;
        come = come;
        ends = λ found. sym (said-of n kind (turns + W.steps) walk.before walk.twin come (W.found found).0).below ∙ (W.found found).1;
        there = λ found. come.passed.there (in-block n kind walk.twin (W.found found).0).0;
        key_is = λ found. (said-of n kind (turns + W.steps) walk.before walk.twin come (W.found found).0).key_is;
        moves = λ on. W.moves on (next-of turns before twin H some).there;
      }

  -- behind the last twin all are below
  pub around-all : (turns before : ℕ) → Come turns before 0 → IsTwinFrom d.types m key p 0 × IsLastBelow d.types m key p before 0
  around-all turns before H = (passed_all d.types m f (addressed d v f fit of holds) key p turns H.passed, record { behind = H.behind; below = H.below })

  -- one that is not below is the first
  pub around-to : (turns before twin : ℕ) → Come turns before twin → is_key_below d.types key (segment_at m twin) ≡ false → IsTwinFrom d.types m key p twin × IsLastBelow d.types m key p before twin
  around-to turns before twin H not_below = (
    passed_to d.types m f (addressed d v f fit of holds) key p turns twin H.passed not_below,
    record { behind = H.behind; below = H.below },
  )

-- ---- after a call that read

-- a block that was there is there
pub block-kept : {A : Type 0} {x : A} (u v : VolumeState) (p : ℕ) → IsRead {T = A} u (Ok x) v → IsTrue v.is_sound → HasBlock u.size u.image (p / u.size) → HasBlock v.size v.image (p / v.size)
block-kept u v p read now there =
    subst (λ (s : ℕ). HasBlock s v.image (p / s)) (sym read.call.size) (subst (λ (i : List ℕ). HasBlock u.size i (p / u.size)) (sym (read.image now)) there)

-- a walk there was one before
pub walk-before : {A : Type 0} {x : A} (u v : VolumeState) (places : TwinPlaces) (key : List ℕ) (other p : ℕ) (walk : Walk) → IsRead {T = A} u (Ok x) v → IsTrue v.is_sound
    → IsWalkFrom v places key other p walk → IsWalkFrom u places key other p walk
walk-before u v places key other p walk read now W =
    subst (λ (i : List ℕ). IsWalk places (block_of u.size i (p / u.size)) (p / u.size * u.size) key other p walk) (read.image now)
    (subst (λ (s : ℕ). IsWalk places (block_of s v.image (p / s)) (p / s * s) key other p walk) read.call.size W)

-- nor another key
pub equal-before : {A : Type 0} {x : A} (u v : VolumeState) (places : TwinPlaces) (key : List ℕ) (p : ℕ) (walk : Walk) → IsRead {T = A} u (Ok x) v → IsTrue v.is_sound
    → IsEqualFrom v places key p walk → IsEqualFrom u places key p walk
equal-before u v places key p walk read now E =
    subst (λ (i : List ℕ). (walk.is_found ≡ true) × (key_in places (block_of u.size i (p / u.size)) (p / u.size * u.size) walk.twin ≡ key)) (read.image now)
    (subst (λ (s : ℕ). (walk.is_found ≡ true) × (key_in places (block_of s v.image (p / s)) (p / s * s) walk.twin ≡ key)) read.call.size E)

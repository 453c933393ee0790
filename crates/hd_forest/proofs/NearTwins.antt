-- A twin of a chain where a walk for a key may begin in place of the first.
use Rattle.std.proofs.Common.{◌≡◌, ℕ, zero, suc, ◌+◌, ◌*◌, ◌/◌, ◌<◌, ◌≤◌, List, [], Bool, true, false, cond, Option, Some, None, Ok, IsTrue, ap, sym, ◌∙◌, refl, subst, arith, inl, inr, Ordering, Less, Equal, Greater}
use Rattle.std.specs.Option.{option_map_or}
use Rattle.std.specs.Ordering.{nat_cmp, is_lt, is_le}
use Rattle.std.specs.Cmp.Lexicographic.{slice_cmp}
use Rattle.std.proofs.lemmas.Cmp.{nat_list_cmp_total}
use Rattle.std.proofs.lemmas.Bool.{false≢true}
use Rattle.hd_bytes.specs.Blocks.{block_of}
use Rattle.hd_dbd.specs.declared.hierarchy.Key.{Key}
use Rattle.hd_dbd.specs.Types.{SegmentType}
use Rattle.hd_dbd.specs.Segment.{Segment}
use Rattle.hd_dbd.specs.Hierarchy.{Database, type_of, part_of, key_in}
use Rattle.hd_dbd.specs.Rows.{twins_in_order}
use Rattle.hd_dbd.specs.Prefixes.{is_backward_kept}
use Rattle.hd_volume.specs.Volumes.{VolumeState, block_at, IsKind}
use Rattle.hd_volume.specs.Calls.{IsRead}
use Rattle.hd_volume.proofs.MapLemmas.{find-there}
use Rattle.hd_links.specs.Links.{Links, IsSegment, segment_at}
use Rattle.hd_links.specs.Pointers.{PointersAreTyped, TwinsLinkBack, KeysAscend, IsTwinAfter, IsInChain, IsTwinBefore}
use Rattle.hd_image.specs.Records.{links_of, IsVolumeOf}
use Rattle.hd_image.specs.Laws.{IsDatabase}
use Rattle.hd_image.proofs.Found.{segment-found}
use Rattle.hd_forest.specs.declared.twins.TwinPlaces.{TwinPlaces}
use Rattle.hd_forest.specs.declared.back_twins.Back.{Back}
use Rattle.hd_forest.specs.Walks.{HasForest}
use Rattle.hd_forest.specs.Twins.{IsBehind, is_key_below, IsTwinFrom, IsLastBelow, MayBegin}
use Rattle.hd_forest.specs.TwinPlaces.{twin_places}
use Rattle.hd_forest.specs.BlockTwins.{HasTwin}
use Rattle.hd_forest.specs.BackTwins.{twin_back, AreNotBelowIn, IsBelowIn, IsBelowAt, IsBackWalk, IsBackWalkFrom}
use Rattle.hd_forest.proofs.Chains.{twin-some}
use Rattle.hd_forest.proofs.Tips.{twins-there}
use Rattle.hd_forest.proofs.Held.{held}
use Rattle.hd_forest.proofs.BlockTwins.{IsTwinOf, twin-of, in-block}

-- ---- keys in order

-- a key that is not above one below a third is below that
up_to_less : (x y z : List ℕ) → is_le (slice_cmp nat_cmp x y) ≡ true → is_lt (slice_cmp nat_cmp y z) ≡ true → is_lt (slice_cmp nat_cmp x z) ≡ true
up_to_less x y z h k = by_first (slice_cmp nat_cmp x y) refl h
  where
    less_is : (o : Ordering) → is_lt o ≡ true → o ≡ Less
    less_is Less e = refl
    less_is Equal e = cc
    less_is Greater e = cc

    by_first : (o : Ordering) → slice_cmp nat_cmp x y ≡ o → is_le o ≡ true → is_lt (slice_cmp nat_cmp x z) ≡ true
    by_first Less is le = ap is_lt (nat_list_cmp_total.trans x y z is (less_is (slice_cmp nat_cmp y z) k))
    by_first Equal is le = ap is_lt (nat_list_cmp_total.congr x y z is) ∙ k
    by_first Greater is le = cc

-- keys in order are not above one another
up_to : (u : Bool) (o : Ordering) → cond u (is_lt o) (is_le o) ≡ true → is_le o ≡ true
up_to true Less e = refl
up_to true Equal e = cc
up_to true Greater e = cc
up_to false o e = e

-- where a twin's key is below a key, that of the twin before is
before-below : (types : List SegmentType) (key : List ℕ) (p r : Segment) → p.code ≡ r.code → twins_in_order types p r ≡ true → is_key_below types key r ≡ true → is_key_below types key p ≡ true
before-below types key p r code order below =
    ap (λ (c : ℕ). option_map_or (λ t. option_map_or (λ k. is_lt (slice_cmp nat_cmp (part_of p.bytes k.start k.length) key)) t.key false) (type_of types c) false) code
    ∙ by_type (type_of types r.code) order below
  where
    by_key : (o : Option Key)
        → option_map_or (λ k. cond k.unique (is_lt (slice_cmp nat_cmp (option_map_or (λ z. part_of p.bytes z.start z.length) o []) (option_map_or (λ z. part_of r.bytes z.start z.length) o [])))
        (is_le (slice_cmp nat_cmp (option_map_or (λ z. part_of p.bytes z.start z.length) o []) (option_map_or (λ z. part_of r.bytes z.start z.length) o [])))) o true ≡ true
        → option_map_or (λ k. is_lt (slice_cmp nat_cmp (part_of r.bytes k.start k.length) key)) o false ≡ true
        → option_map_or (λ k. is_lt (slice_cmp nat_cmp (part_of p.bytes k.start k.length) key)) o false ≡ true
    by_key None h e = cc
    by_key (Some k) h e = up_to_less (part_of p.bytes k.start k.length) (part_of r.bytes k.start k.length) key (up_to k.unique _ h) e

    by_type : (o : Option SegmentType)
        → option_map_or (λ t. option_map_or (λ k. cond k.unique (is_lt (slice_cmp nat_cmp (key_in t p.bytes) (key_in t r.bytes))) (is_le (slice_cmp nat_cmp (key_in t p.bytes) (key_in t r.bytes)))) t.key true) o false ≡ true
        → option_map_or (λ t. option_map_or (λ k. is_lt (slice_cmp nat_cmp (part_of r.bytes k.start k.length) key)) t.key false) o false ≡ true
        → option_map_or (λ t. option_map_or (λ k. is_lt (slice_cmp nat_cmp (part_of p.bytes k.start k.length) key)) t.key false) o false ≡ true
    by_type None h e = cc
    by_type (Some t) h e = by_key t.key h e

-- ---- along the chain

-- a chain from a twin of a chain is a part of that
chains-join : (m : Links) (n p a y : ℕ) → IsTwinAfter m n p a → IsInChain m a y → IsInChain m p y
chains-join m zero p a y w c = subst (λ x. IsInChain m x y) (sym w.1) c
chains-join m (suc n) p a y w c = (let R = chains-join m n (m.forward p) a y w.1 c in (suc R.0, (w.0, R.1)))

module _ (types : List SegmentType) (m : Links) (typed : PointersAreTyped types m) (ascend : KeysAscend types m) (key : List ℕ) where
  -- the next twin of a chain is a segment of the type
  next-there : (p : ℕ) → IsSegment m p → 0 < m.forward p → IsSegment m (m.forward p) × (m.code (m.forward p) ≡ m.code p)
  next-there p there some = (let T = typed.forward p there some in (record { some = some; here = T.0 }, T.1))

  -- what is so from a twin whose key is below is so from the first, whose key is below too
  pub from-first : (n p a r : ℕ) → IsSegment m p → IsTwinAfter m n p a → is_key_below types key (segment_at m a) ≡ true → IsTwinFrom types m key a r
      → IsTwinFrom types m key p r × (is_key_below types key (segment_at m p) ≡ true)
  from-first zero p a r there w below T =
      (subst (λ x. IsTwinFrom types m key x r) (sym w.1) T, subst (λ x. is_key_below types key (segment_at m x) ≡ true) (sym w.1) below)
  from-first (suc n) p a r there w below T =
      let N = next-there p there (twin-some m n (m.forward p) a w.1) in
      let R = from-first n (m.forward p) a r N.0 w.1 below T in
      let own = before-below types key (segment_at m p) (segment_at m (m.forward p)) (sym N.1) (ascend (m.forward p) p N.0 (record { holder = there; names = refl })) R.1 in (
        record { after = suc R.0.after; is = R.0.is; below = (there, own, R.0.below); there = R.0.there; ends = R.0.ends },
        own,
      )

  -- a walk that may begin at a twin finds the first whose key is not below
  pub begun-from : (p a r : ℕ) → IsSegment m p → MayBegin types m key p a → IsTwinFrom types m key a r → IsTwinFrom types m key p r
  begun-from p a r there (inl e) T = subst (λ x. IsTwinFrom types m key x r) e T
  begun-from p a r there (inr B) T = (from-first B.0.0 p a r there B.0.1 B.1 T).0

  -- and the last whose key is below
  pub begun-below : (p a y r : ℕ) → IsSegment m p → MayBegin types m key p a → IsTwinFrom types m key a r → IsLastBelow types m key a y r → IsLastBelow types m key p y r
  begun-below p a y r there (inl e) T L = subst (λ x. IsLastBelow types m key x y r) e L
  begun-below p a y r there (inr B) T L =
      record { behind = by L.behind; below = L.below }
    where
      by : IsBehind m a y r → IsBehind m p y r
      by (inl e) =
          let own : IsSegment m a = (twins-there types m typed (m.code p) B.0.0 p a there refl B.0.1).0 in
          let other : is_key_below types key (segment_at m a) ≡ false = subst (λ x. is_key_below types key (segment_at m x) ≡ false) (sym e.1) (T.ends (subst (λ x. 0 < x) e.1 own.some)) in
          absurd (false≢true (sym other ∙ B.1))
      by (inr b) = inr (b.0, chains-join m B.0.0 p a y B.0.1 b.1, b.2)

  -- it begins at a segment of the type
  pub begun-there : (p a : ℕ) → IsSegment m p → MayBegin types m key p a → IsSegment m a × (m.code a ≡ m.code p)
  begun-there p a there (inl e) = (subst (IsSegment m) (sym e) there, ap m.code e)
  begun-there p a there (inr B) = twins-there types m typed (m.code p) B.0.0 p a there refl B.0.1

-- ---- back along the chain

module _ (types : List SegmentType) (m : Links) (typed : PointersAreTyped types m) (linked : TwinsLinkBack types m) (key : List ℕ) where
  -- a twin that is not the first has one before it
  one-before : (n p a : ℕ) → IsSegment m p → IsTwinAfter m (suc n) p a → (h : ℕ) × IsTwinAfter m n p h × IsTwinBefore m h a
  one-before zero p a there w = (p, (w.0, refl), record { holder = there; names = w.1.1 })
  one-before (suc n) p a there w =
      let some : 0 < m.forward p = w.1.0 in
      let R = one-before n (m.forward p) a (record { some = some; here = (typed.forward p there some).0 }) w.1 in (R.0, (w.0, R.1), R.2)

  -- twin backward of a twin whose key is not below is in the chain from one whose key is
  pub step-back : (p a : ℕ) → IsSegment m p → is_key_below types key (segment_at m p) ≡ true → IsInChain m p a → is_key_below types key (segment_at m a) ≡ false
      → is_backward_kept types (m.code a) ≡ true → IsInChain m p (m.backward a)
  step-back p a there below c not_below kept = by c.0 c.1
    where
      by : (n : ℕ) → IsTwinAfter m n p a → IsInChain m p (m.backward a)
      by zero w = absurd (false≢true (sym not_below ∙ ap (λ x. is_key_below types key (segment_at m x)) (sym w.1) ∙ below))
      by (suc n) w =
          let own : IsSegment m a = (twins-there types m typed (m.code p) (suc n) p a there refl w).0 in
          let H = one-before n p a there w in subst (IsInChain m p) (sym (linked.twins a H.0 own kept H.2)) (n, H.1)

-- ---- by the bytes of blocks

-- a block has a segment
pub block-of-segment : (d : Database) (v : VolumeState) (a : ℕ) → IsDatabase d → IsVolumeOf d v → IsSegment (links_of d.types v) a → IsKind v 1 (a / v.size)
block-of-segment d v a fit of there =
    let h = segment-found d v a fit of there in find-there v a 0 of.formatted (record { bytes = h.bytes; is = h.is; long = omega arith })

-- what a block's bytes say of a key is what its record says
pub below-at : (d : Database) (v : VolumeState) (places : TwinPlaces) (key : List ℕ) (a : ℕ) → IsDatabase d → IsVolumeOf d v → IsSegment (links_of d.types v) a
    → twin_places d.types ((links_of d.types v).code a) ≡ Some places → IsBelowAt v places key a → is_key_below d.types key (segment_at (links_of d.types v) a) ≡ true
below-at d v places key a fit of there are B = sym (twin-of d v places key a fit of there are).below ∙ B.1

-- What a walk back along the twins of a block came to: a twin of the chain, and where it was found its key is below.
pub record HasCameBack (types : List SegmentType) (m : Links) (key : List ℕ) (p : ℕ) (back : Back) : Type 0 where
  pub chain : IsInChain m p back.twin
  pub below : back.is_below ≡ true → is_key_below types key (segment_at m back.twin) ≡ true

module _ (d : Database) (v : VolumeState) (fit : IsDatabase d) (of : IsVolumeOf d v) (holds : HasForest d v) (places : TwinPlaces) (place : ℕ) (key : List ℕ) (p : ℕ)
    (are : twin_places d.types ((links_of d.types v).code p) ≡ Some places) (backward : places.backward ≡ Some place) (room : place + 4 ≤ places.key)
    (there : IsSegment (links_of d.types v) p) (below : is_key_below d.types key (segment_at (links_of d.types v) p) ≡ true) where
  abbrev m : Links
  m = links_of d.types v

  -- a twin of the chain in a block
  said-of : (n a : ℕ) → IsKind v 1 n → IsInChain m p a → HasTwin places (block_at v n) (n * v.size) a → IsSegment m a × IsTwinOf d.types m places (block_at v n) (n * v.size) key a
  said-of n a kind c has =
      let T = twins-there d.types m (held d v fit of holds).linked.typed (m.code p) c.0 p a there refl c.1 in
      let i = in-block d v holds.0 fit of holds.1 places key p are n kind a has in (
        T.0,
        subst (λ (k : ℕ). IsTwinOf d.types m places (block_at v k) (k * v.size) key a) i.1 (twin-of d v places key a fit of T.0 (ap (twin_places d.types) T.1 ∙ are)),
      )

  -- twins of a block that were gone back over lead to a twin of the chain
  comes-back : (n : ℕ) → IsKind v 1 n → (k twin : ℕ) → IsInChain m p twin → AreNotBelowIn places place (block_at v n) (n * v.size) key k twin
      → IsInChain m p (twin_back place (block_at v n) (n * v.size) k twin)
  comes-back n kind zero twin c passed = c
  comes-back n kind (suc k) twin c passed =
      let a : ℕ = twin_back place (block_at v n) (n * v.size) k twin in
      let C = comes-back n kind k twin c passed.0 in
      let S = said-of n a kind C passed.1 in
      let B = S.1.backward place backward room in
      subst (IsInChain m p) (sym B.0)
      (step-back d.types m (held d v fit of holds).linked.typed (held d v fit of holds).linked.back key p a there below C (sym S.1.below ∙ passed.2) B.1)

  -- so does a walk
  pub came-back : (twin : ℕ) (back : Back) → IsInChain m p twin → IsBackWalkFrom v places place key twin back → HasCameBack d.types m key p back
  came-back twin back c W =
      let n : ℕ = twin / v.size in
      let kind = block-of-segment d v twin fit of (twins-there d.types m (held d v fit of holds).linked.typed (m.code p) c.0 p twin there refl c.1).0 in
      let chain : IsInChain m p back.twin = subst (IsInChain m p) (sym W.twin) (comes-back n kind W.steps twin c W.passed) in
      record {
        chain = chain;
        below = λ found. (let F = W.found found in sym (said-of n back.twin kind chain F.0).1.below ∙ F.1);
      }

-- ---- after a call that read

-- a walk there was one before
pub back-before : {A : Type 0} {x : A} (u v : VolumeState) (places : TwinPlaces) (place : ℕ) (key : List ℕ) (p : ℕ) (back : Back) → IsRead {T = A} u (Ok x) v → IsTrue v.is_sound
    → IsBackWalkFrom v places place key p back → IsBackWalkFrom u places place key p back
back-before u v places place key p back read now W =
    subst (λ (i : List ℕ). IsBackWalk places place (block_of u.size i (p / u.size)) (p / u.size * u.size) key p back) (read.image now)
    (subst (λ (s : ℕ). IsBackWalk places place (block_of s v.image (p / s)) (p / s * s) key p back) read.call.size W)

-- nor another key
pub below-before : {A : Type 0} {x : A} (u v : VolumeState) (places : TwinPlaces) (key : List ℕ) (a : ℕ) → IsRead {T = A} u (Ok x) v → IsTrue v.is_sound
    → IsBelowAt v places key a → IsBelowAt u places key a
below-before u v places key a read now B =
    subst (λ (i : List ℕ). IsBelowIn places (block_of u.size i (a / u.size)) (a / u.size * u.size) key a) (read.image now)
    (subst (λ (s : ℕ). IsBelowIn places (block_of s v.image (a / s)) (a / s * s) key a) read.call.size B)

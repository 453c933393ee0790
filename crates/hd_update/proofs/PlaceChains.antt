-- A chain of twins, and where a row without key goes in.
use Rattle.std.proofs.Common.{◌≡◌, ℕ, zero, suc, ◌<◌, ◌≤◌, List, [], Bool, true, false, Option, Some, None, Ok, IsTrue, refl, sym, ap, subst, ◌∙◌, arith, inl, inr}
use Rattle.std.specs.Prelude.{cond, is_some, option_map, option_and_then}
use Rattle.std.specs.Option.{option_map_or}
use Rattle.std.specs.Ordering.{nat_cmp, is_lt}
use Rattle.std.specs.declared.cmp.Ordering.{Ordering}
use Rattle.std.specs.declared.cmp.Ordering.TheVariants.{Less, Equal, Greater}
use Rattle.std.specs.Cmp.Lexicographic.{slice_cmp}
use Rattle.std.proofs.lemmas.Bool.{false≢true}
use Rattle.hd_dbd.specs.declared.hierarchy.Key.{Key}
use Rattle.hd_dbd.specs.Types.{SegmentType}
use Rattle.hd_dbd.specs.Segment.{Segment}
use Rattle.hd_dbd.specs.Hierarchy.{Database, type_of, part_of}
use Rattle.hd_dbd.specs.Rows.{key_of}
use Rattle.hd_dbd.specs.Loads.{has_unique_key}
use Rattle.hd_volume.specs.Volumes.{VolumeState}
use Rattle.hd_volume.specs.Calls.{IsRead}
use Rattle.hd_links.specs.Links.{Links, IsSegment, segment_at, is_child_type}
use Rattle.hd_links.specs.Pointers.{IsTwinAfter, IsInChain}
use Rattle.hd_links.proofs.Build.{zero_or}
use Rattle.hd_links.proofs.Ways.{chain_more}
use Rattle.hd_image.specs.Records.{links_of}
use Rattle.hd_forest.specs.declared.read.EndChildren.{EndChildren}
use Rattle.hd_forest.specs.Twins.{AreTwins, twin_after, IsTwinWithin, IsBehind, is_key_below}
use Rattle.hd_forest.specs.TwinPlaces.{places_of, twin_places}
use Rattle.hd_forest.proofs.Chains.{twin-some}
use Rattle.hd_forest.proofs.Held.{held}
use Rattle.hd_forest.proofs.LastChildren.{last-chained}
use Rattle.hd_forest.proofs.Reading.{after-read, sound-before, links-kept}
use Rattle.hd_forest.proofs.Tips.{twins-there}
use Rattle.hd_update.specs.declared.places.Side.TheVariants.{Before, Behind}
use Rattle.hd_update.specs.Places.{has_key, side_of, side_at, IsGapFound, IsGapBelow, IsParent, HasParent, HasEnds}

-- what stands behind a twin, or first, is in the chain
pub reached : (m : Links) (p y z : ℕ) → IsBehind m p y z → 0 < z → IsInChain m p z
reached m p y z (inl e) some = (0, (subst (λ x. 0 < x) (sym e.1) some, e.1))
reached m p y z (inr b) some = subst (IsInChain m p) b.2 (suc b.1.0, chain_more m b.1.0 p y b.1.1 (subst (λ x. 0 < x) (sym b.2) some))

-- where twin forward and key have no place the type has no key
pub keyless : (types : List SegmentType) (c : ℕ) → twin_places types c ≡ None → has_key types c ≡ false
keyless types c are = by_type (type_of types c) refl are
  where
    by_key : (t : SegmentType) (o : Option Key) → type_of types c ≡ Some t
        → option_and_then (λ k. option_map (λ place. places_of types c k place) (option_map (λ _. 2) (type_of types c))) o ≡ None → is_some o ≡ false
    by_key t None is e = refl
    by_key t (Some k) is e =
        (let wrong : Some (places_of types c k 2) ≡ None
        = sym (ap (λ (o : Option SegmentType). option_map (λ place. places_of types c k place) (option_map (λ _. 2) o)) is) ∙ e in cc)

    by_type : (o : Option SegmentType) → type_of types c ≡ o
        → option_and_then (λ t. option_and_then (λ k. option_map (λ place. places_of types c k place) (option_map (λ _. 2) (type_of types c))) t.key) o ≡ None
        → option_map_or (λ t. is_some t.key) o false ≡ false
    by_type None is e = refl
    by_type (Some t) is e = by_key t t.key is e

-- what stands in the chain below a parent is a segment of the type
pub chain_typed : (d : Database) (v : VolumeState) (h code : ℕ) → IsParent d v h code → (a : ℕ) → IsInChain (links_of d.types v) ((links_of d.types v).first_child h code) a
    → IsSegment (links_of d.types v) a × ((links_of d.types v).code a ≡ code)
chain_typed d v h code P a chain =
    let m : Links = links_of d.types v in
    let H = held d v P.volume.fit P.volume P.forest in
    let some : 0 < m.first_child h code = twin-some m chain.0 (m.first_child h code) a chain.1 in
    let T = H.linked.typed.first h code P.here P.typed some in
    twins-there d.types m H.linked.typed code chain.0 (m.first_child h code) a (record { some = some; here = T.0 }) T.1 chain.1

-- without key a new row goes behind a twin where it goes last, else before it
side_without : (types : List SegmentType) (own new : Segment) (last : Bool) → own.code ≡ new.code → has_key types new.code ≡ false
    → side_of (has_unique_key types new.code) last (slice_cmp nat_cmp (key_of types own) (key_of types new)) ≡ cond last Behind Before
side_without types own new last same without = by_type (type_of types new.code) refl
  where
    by_key : (t : SegmentType) (k : Option Key) → t.key ≡ k → type_of types new.code ≡ Some t
        → side_of (has_unique_key types new.code) last (slice_cmp nat_cmp (key_of types own) (key_of types new)) ≡ cond last Behind Before
    by_key t None none is = (let other : type_of types own.code ≡ Some t = ap (type_of types) same ∙ is in rw (is, other, none) refl)
    by_key t (Some k) some is = absurd (false≢true (sym without ∙ rw (is, some) refl))

    by_type : (o : Option SegmentType) → type_of types new.code ≡ o → side_of (has_unique_key types new.code) last (slice_cmp nat_cmp (key_of types own) (key_of types new)) ≡ cond last Behind Before
    by_type None none = (let other : type_of types own.code ≡ None = ap (type_of types) same ∙ none in rw (none, other) refl)
    by_type (Some t) is = by_key t t.key refl is

pub unkeyed_side : (d : Database) (v : VolumeState) (h : ℕ) (row : Segment) (last : Bool) → IsParent d v h row.code → has_key d.types row.code ≡ false
    → (a : ℕ) → IsInChain (links_of d.types v) ((links_of d.types v).first_child h row.code) a → side_at d.types (links_of d.types v) last row a ≡ cond last Behind Before
unkeyed_side d v h row last P without a chain = side_without d.types (segment_at (links_of d.types v) a) row last (chain_typed d v h row.code P a chain).1 without

-- the twin before, in the chain
pub behind_chained : (m : Links) (p y z : ℕ) → IsBehind m p y z → 0 < y → IsInChain m p y
behind_chained m p y z (inl e) some = absurd (let none = e.0 in omega arith)
behind_chained m p y z (inr b) some = b.1

-- a chain goes on from a twin that is there
pub some_of : (n : ℕ) → (n ≡ 0 → ⊥) → 0 < n
some_of n ne = elim (zero_or n) [ inl z ↦ absurd (ne z) | inr w ↦ w ]

-- What is known of the last child below a parent.
pub record IsLastOfEnds (types : List SegmentType) (m : Links) (h code : ℕ) (ends : EndChildren) : Type 0 where
  pub chain : IsInChain m ends.first ends.last
  pub own : IsInChain m (m.first_child h code) ends.last
  pub there : IsSegment m ends.last
  pub typed : m.code ends.last ≡ code
  pub behind : IsBehind m (m.first_child h code) ends.last 0

-- it is the last of the chain
pub last_of_ends : (d : Database) (v : VolumeState) (h code : ℕ) (ends : EndChildren) → HasParent d v h code → HasEnds d v h code ends → 0 < ends.last → (sound : IsTrue v.is_sound)
    → IsLastOfEnds d.types (links_of d.types v) h code ends
last_of_ends d v h code ends has are some sound =
    let m : Links = links_of d.types v in
    let P = has sound in
    let E = are sound in
    let L = last-chained d v P.volume.fit P.volume P.forest h code P.here P.typed (subst (λ x. 0 < x) E.1 some) in
    let own : IsInChain m (m.first_child h code) ends.last = subst (IsInChain m (m.first_child h code)) (sym E.1) L.0 in
    let T = chain_typed d v h code P ends.last own in
    record {
      chain = subst (λ x. IsInChain m x ends.last) (sym E.0) own;
      own = own;
      there = T.0;
      typed = T.1;
      behind = inr (some, own, ap m.forward E.1 ∙ L.1);
    }

-- ---- after calls that read

-- the same ends
pub ends_kept : {A : Type 0} {x : A} (d : Database) (u v : VolumeState) → IsRead {T = A} u (Ok x) v → (h code : ℕ) (ends : EndChildren) → HasEnds d u h code ends → HasEnds d v h code ends
ends_kept d u v read h code ends are = links-kept d (λ (m : Links). (ends.first ≡ m.first_child h code) × (ends.last ≡ m.last_child h code)) u v read are

-- the same parent
pub parent_kept : {A : Type 0} {x : A} (d : Database) (u v : VolumeState) → IsRead {T = A} u (Ok x) v → (h code : ℕ) → HasParent d u h code → HasParent d v h code
parent_kept d u v read h code has now =
    let sound = sound-before u v read now in
    let same = after-read d u v read sound in
    let P = has sound in
    record {
      volume = same.volume P.volume;
      forest = same.forest P.forest;
      here = subst (λ (k : Links). k.here h ≡ true) (sym same.links) P.here;
      typed = subst (λ (k : Links). is_child_type d.types (k.code h) code ≡ true) (sym same.links) P.typed;
    }

-- the same place
pub gap_told : {A : Type 0} {x : A} (d : Database) (u v : VolumeState) → IsRead {T = A} u (Ok x) v → (h : ℕ) (last : Bool) (row : Segment) (r : Option ℕ) → IsGapBelow d v h last row r
    → IsGapBelow d u h last row r
gap_told d u v read h last row r gap sound =
    let same = after-read d u v read sound in
    subst (λ (k : Links). IsGapFound d.types k (k.first_child h row.code) last row r) same.links (gap same.sound)

-- ---- behind the twins whose keys are below

-- a step along a chain that ends
step_on : (m : Links) (bound p : ℕ) → 0 < p → IsTwinWithin m bound p 0 → IsTwinWithin m bound (m.forward p) 0
step_on m bound p some w = by w.after w.few w.is w.twins
  where
    by : (n : ℕ) → n ≤ bound → twin_after m n p ≡ 0 → AreTwins m n p → IsTwinWithin m bound (m.forward p) 0
    by zero few is twins = absurd (omega arith)
    by (suc n) few is twins = record { after = n; few = omega arith; is = is; twins = twins.1 }

-- what stands behind a twin of a chain that ends, or first in it, is in a chain that ends
pub within_behind : (m : Links) (bound p y z : ℕ) → IsTwinWithin m bound p 0 → IsBehind m p y z → IsTwinWithin m bound z 0
within_behind m bound p y z w (inl e) = subst (λ x. IsTwinWithin m bound x 0) e.1 w
within_behind m bound p y z w (inr b) = subst (λ x. IsTwinWithin m bound x 0) b.2 (along b.1.0 p w b.1.1)
  where
    along : (n q : ℕ) → IsTwinWithin m bound q 0 → IsTwinAfter m n q y → IsTwinWithin m bound (m.forward y) 0
    along zero q w a = subst (λ x. IsTwinWithin m bound (m.forward x) 0) a.1 (step_on m bound q a.0 w)
    along (suc n) q w a = along n (m.forward q) (step_on m bound q a.0 w) a.1

-- a key that is below another comes before it
below_first : (types : List SegmentType) (key : List ℕ) (r : Segment) → is_key_below types key r ≡ true → slice_cmp nat_cmp (key_of types r) key ≡ Less
below_first types key r below = by_type (type_of types r.code) below
  where
    less : (o : Ordering) → is_lt o ≡ true → o ≡ Less
    less Less e = refl
    less Equal e = cc
    less Greater e = cc

    by_key : (o : Option Key) → option_map_or (λ k. is_lt (slice_cmp nat_cmp (part_of r.bytes k.start k.length) key)) o false ≡ true
        → slice_cmp nat_cmp (option_map_or (λ k. part_of r.bytes k.start k.length) o []) key ≡ Less
    by_key None e = cc
    by_key (Some k) e = less (slice_cmp nat_cmp (part_of r.bytes k.start k.length) key) e

    by_type : (o : Option SegmentType) → option_map_or (λ t. option_map_or (λ k. is_lt (slice_cmp nat_cmp (part_of r.bytes k.start k.length) key)) t.key false) o false ≡ true
        → slice_cmp nat_cmp (option_map_or (λ t. option_map_or (λ k. part_of r.bytes k.start k.length) t.key []) o []) key ≡ Less
    by_type None e = cc
    by_type (Some t) e = by_key t.key e

-- a new row goes behind a twin whose key is below its own
pub below_behind : (types : List SegmentType) (m : Links) (last : Bool) (row : Segment) (a : ℕ) → is_key_below types (key_of types row) (segment_at m a) ≡ true → side_at types m last row a ≡ Behind
below_behind types m last row a below = ap (side_of (has_unique_key types row.code) last) (below_first types (key_of types row) (segment_at m a) below)

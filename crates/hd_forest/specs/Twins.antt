-- Twins in the chain from a first child.
use Rattle.std.specs.Prelude.{◌≡◌, ◌⊎◌, ℕ, zero, suc, ◌<◌, ◌≤◌, List, Bool, true, false}
use Rattle.std.specs.Option.{option_map_or}
use Rattle.std.specs.Ordering.{nat_cmp, is_lt}
use Rattle.std.specs.Cmp.Lexicographic.{slice_cmp}
use Rattle.hd_dbd.specs.Types.{SegmentType}
use Rattle.hd_dbd.specs.Segment.{Segment}
use Rattle.hd_dbd.specs.Hierarchy.{type_of, part_of}
use Rattle.hd_dbd.specs.Rows.{key_of}
use Rattle.hd_links.specs.Links.{Links, IsSegment, segment_at}
use Rattle.hd_links.specs.Pointers.{IsInChain}

-- so many twins from p on are segments
abbrev pub AreTwins : Links → ℕ → ℕ → Type 0
AreTwins m zero p = Unit {0}
AreTwins m (suc n) p = IsSegment m p × AreTwins m n (m.forward p)

-- what so many steps along the twins from p come to
abbrev pub twin_after : Links → ℕ → ℕ → ℕ
twin_after m zero p = p
twin_after m (suc n) p = twin_after m n (m.forward p)

-- At most so many steps along segments from p come to a: to a twin, or to 0 behind the last.
pub record IsTwinWithin (m : Links) (bound p a : ℕ) : Type 0 where
  pub after : ℕ
  pub few : after ≤ bound
  pub is : twin_after m after p ≡ a
  pub twins : AreTwins m after p

-- A is the first of the chain from p, and y is 0, or y is the twin before it. Before 0 stands the last of the chain, if there is one.
abbrev pub IsBehind : Links → ℕ → ℕ → ℕ → Type 0
IsBehind m p y a = ((y ≡ 0) × (p ≡ a)) ⊎ ((0 < y) × IsInChain m p y × (m.forward y ≡ a))

-- the row's type has a key, and the row's is below another
abbrev pub is_key_below : List SegmentType → List ℕ → Segment → Bool
is_key_below types key r =
    option_map_or (λ t. option_map_or (λ k. is_lt (slice_cmp nat_cmp (part_of r.bytes k.start k.length) key)) t.key false) (type_of types r.code) false

-- so many twins from p on are segments whose keys are below a key
abbrev pub AreTwinsBelow : List SegmentType → Links → List ℕ → ℕ → ℕ → Type 0
AreTwinsBelow types m key zero p = Unit {0}
AreTwinsBelow types m key (suc n) p =
    IsSegment m p × (is_key_below types key (segment_at m p) ≡ true) × AreTwinsBelow types m key n (m.forward p)

-- Of the twins from p on, r is the first whose key is not below a key, or 0 where all are below.
pub record IsTwinFrom (types : List SegmentType) (m : Links) (key : List ℕ) (p r : ℕ) : Type 0 where
  pub after : ℕ
  pub is : twin_after m after p ≡ r
  pub below : AreTwinsBelow types m key after p
  pub there : 0 < r → IsSegment m r
  pub ends : 0 < r → is_key_below types key (segment_at m r) ≡ false

-- Of the twins from p on, before is the last whose key is below a key, 0 for none, and from, 0 for none, stands behind it, or is p.
pub record IsLastBelow (types : List SegmentType) (m : Links) (key : List ℕ) (p before from : ℕ) : Type 0 where
  pub behind : IsBehind m p before from
  pub below : 0 < before → is_key_below types key (segment_at m before) ≡ true

-- A walk along the twins from p for the first whose key is not below a key may begin at a: that is p, or a twin of the chain from p whose key is below.
abbrev pub MayBegin : List SegmentType → Links → List ℕ → ℕ → ℕ → Type 0
MayBegin types m key p a = (a ≡ p) ⊎ (IsInChain m p a × (is_key_below types key (segment_at m a) ≡ true))

-- The address is that of a segment, whose key is this.
pub record IsOfKey (types : List SegmentType) (m : Links) (key : List ℕ) (a : ℕ) : Type 0 where
  pub there : IsSegment m a
  pub is : key_of types (segment_at m a) ≡ key

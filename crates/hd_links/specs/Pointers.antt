-- What the pointers of a database keep to, told of the records as a whole, without a walk.
use Rattle.std.specs.Prelude.{◌≡◌, ℕ, zero, suc, ◌<◌, List, true, ◌⊎◌}
use Rattle.hd_dbd.specs.Types.{SegmentType}
use Rattle.hd_dbd.specs.Rows.{twins_in_order}
use Rattle.hd_links.specs.Links.{Links, IsSegment, segment_at, is_child_type, is_last_kept}
use Rattle.hd_dbd.specs.Prefixes.{is_backward_kept}

-- A pointer is 0, or it names a segment of the type.
abbrev pub PointsTo : Links → ℕ → ℕ → Type 0
PointsTo m t p = 0 < p → (m.here p ≡ true) × (m.code p ≡ t)

-- No delete byte is set, and each pointer names a segment of the type that its own sort of pointer demands: a twin is of
-- the segment's type, and first and last child are of the child type.
pub record PointersAreTyped (types : List SegmentType) (m : Links) : Type 0 where
  pub delete_byte : (a : ℕ) → IsSegment m a → m.delete_byte a ≡ 0
  pub forward : (a : ℕ) → IsSegment m a → PointsTo m (m.code a) (m.forward a)
  pub backward : (a : ℕ) → IsSegment m a → is_backward_kept types (m.code a) ≡ true → PointsTo m (m.code a) (m.backward a)
  pub first : (a t : ℕ) → m.here a ≡ true → is_child_type types (m.code a) t ≡ true → PointsTo m t (m.first_child a t)
  pub last : (a t : ℕ) → m.here a ≡ true → is_child_type types (m.code a) t ≡ true → is_last_kept types t ≡ true → PointsTo m t (m.last_child a t)

-- The segment h has a as its twin forward.
pub record IsTwinBefore (m : Links) (h a : ℕ) : Type 0 where
  pub holder : IsSegment m h
  pub names : m.forward h ≡ a

-- The record h has a as its first child of type t.
pub record IsParentOfFirst (types : List SegmentType) (m : Links) (h t a : ℕ) : Type 0 where
  pub holder : m.here h ≡ true
  pub typed : is_child_type types (m.code h) t ≡ true
  pub names : m.first_child h t ≡ a

-- The segment h, or the header, is a predecessor of a: by twin forward or by first child.
abbrev pub Precedes : List SegmentType → Links → ℕ → ℕ → Type 0
Precedes types m h a = IsTwinBefore m h a ⊎ ((t : ℕ) × IsParentOfFirst types m h t a)

-- Each segment has just one predecessor.
pub record PredecessorsAreOne (types : List SegmentType) (m : Links) : Type 0 where
  pub some : (a : ℕ) → IsSegment m a → (h : ℕ) × Precedes types m h a
  pub one : (a g h : ℕ) → IsSegment m a → Precedes types m g a → Precedes types m h a → g ≡ h

-- The chain of twins from p comes to the segment a after so many twins.
abbrev pub IsTwinAfter : Links → ℕ → ℕ → ℕ → Type 0
IsTwinAfter m zero p a = (0 < p) × (p ≡ a)
IsTwinAfter m (suc n) p a = (0 < p) × IsTwinAfter m n (m.forward p) a

-- the segment a is in the chain of twins from p
abbrev pub IsInChain : Links → ℕ → ℕ → Type 0
IsInChain m p a = (n : ℕ) × IsTwinAfter m n p a

-- Twin backward, where it is kept, is the preceding twin, or 0 where a first child pointer precedes; last child, where it
-- is kept, is the last twin of the chain from first child, or 0 where that is 0.
pub record TwinsLinkBack (types : List SegmentType) (m : Links) : Type 0 where
  pub twins : (a h : ℕ) → IsSegment m a → is_backward_kept types (m.code a) ≡ true → IsTwinBefore m h a → m.backward a ≡ h
  pub firsts : (a h t : ℕ) → IsSegment m a → is_backward_kept types (m.code a) ≡ true → IsParentOfFirst types m h t a → m.backward a ≡ 0
  pub lasts : (h t : ℕ) → m.here h ≡ true → is_child_type types (m.code h) t ≡ true → is_last_kept types t ≡ true
      → 0 < m.first_child h t → IsInChain m (m.first_child h t) (m.last_child h t) × (m.forward (m.last_child h t) ≡ 0)
  pub no_lasts : (h t : ℕ) → m.here h ≡ true → is_child_type types (m.code h) t ≡ true → is_last_kept types t ≡ true
      → m.first_child h t ≡ 0 → m.last_child h t ≡ 0

-- No segment's key is less than that of the preceding twin, or equal where it is unique.
abbrev pub KeysAscend : List SegmentType → Links → Type 0
KeysAscend types m = (a h : ℕ) → IsSegment m a → IsTwinBefore m h a → twins_in_order types (segment_at m h) (segment_at m a) ≡ true

-- The segment a is reached from the header by so many pointers, each twin forward or first child.
abbrev pub IsReached : List SegmentType → Links → ℕ → ℕ → Type 0
IsReached types m zero a = a ≡ 0
IsReached types m (suc n) a = IsSegment m a × ((h : ℕ) × IsReached types m n h × Precedes types m h a)

-- The records are linked: all of these are so, and each segment is reached.
pub record AreLinked (types : List SegmentType) (m : Links) : Type 0 where
  pub typed : PointersAreTyped types m
  pub single : PredecessorsAreOne types m
  pub back : TwinsLinkBack types m
  pub keys : KeysAscend types m
  pub reached : (a : ℕ) → IsSegment m a → (n : ℕ) × IsReached types m n a

-- Records that hold no forest.
use Rattle.std.specs.Prelude.{◌≡◌, ℕ, ◌<◌, List, true}
use Rattle.hd_dbd.specs.Types.{SegmentType}
use Rattle.hd_dbd.specs.Forest.{Forest}
use Rattle.hd_links.specs.Links.{Links, IsSegment, is_child_type, is_last_kept}
use Rattle.hd_links.specs.Placed.{Placed, Holds}
use Rattle.hd_links.specs.Pointers.{Precedes, IsTwinAfter, IsReached}

-- The records hold no forest.
abbrev pub HoldNone : List SegmentType → Links → Type 0
HoldNone types m = (f : Forest Placed) → Holds types m f → ⊥

-- What no forest is held with: a ring of twins; a segment that two records name; a last child with a twin behind it; and a
-- segment that is not reached.
pub record FaultyRecords (types : List SegmentType) (m : Links) : Type 0 where
  pub ring : (a n : ℕ) → IsSegment m a → IsTwinAfter m n (m.forward a) a → HoldNone types m
  pub twice : (a g h : ℕ) → IsSegment m a → Precedes types m g a → Precedes types m h a → (g ≡ h → ⊥) → HoldNone types m
  pub middle : (h t : ℕ) → m.here h ≡ true → is_child_type types (m.code h) t ≡ true → is_last_kept types t ≡ true → 0 < m.first_child h t → 0 < m.forward (m.last_child h t) → HoldNone types m
  pub unreached : (a : ℕ) → IsSegment m a → ((n : ℕ) → IsReached types m n a → ⊥) → HoldNone types m

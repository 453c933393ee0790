-- The way back from a row to the one before it, by pointers.
use Rattle.std.specs.Prelude.{◌≡◌, ◌⊎◌, ℕ, ◌-◌, ◌<◌, List, [], ◌∷◌, ◌++◌, length, take, true, cond, Option}
use Rattle.hd_dbd.specs.Types.{SegmentType}
use Rattle.hd_links.specs.Links.{Links, child_types, is_child_type}
use Rattle.hd_links.specs.Pointers.{IsInChain}
use Rattle.hd_links.specs.Steps.{LeadsDown, next_row, child_among, later_than}
use Rattle.hd_forest.specs.Walks.{tip, parent_on}
use Rattle.hd_forest.specs.Children.{comes_before}
pub use Rattle.hd_forest.specs.Children.{beside}

-- The path leads from h down to the last row below it: each row on it is the last twin of the last child type that has any, and
-- the last has no child.
abbrev pub EndsBelow : List SegmentType → Links → ℕ → List ℕ → Type 0
EndsBelow types m h [] = child_among m h (child_types types (m.code h)) ≡ 0
EndsBelow types m h (a ∷ path) =
    (is_child_type types (m.code h) (m.code a) ≡ true) × IsInChain m (m.first_child h (m.code a)) a × (m.forward a ≡ 0)
    × (child_among m h (later_than (m.code a) (child_types types (m.code h))) ≡ 0) × EndsBelow types m a path

-- the path leads on down to the last row below the last of another
abbrev pub IsExtended : List SegmentType → Links → List ℕ → List ℕ → Type 0
IsExtended types m old new = (q : List ℕ) × (new ≡ old ++ q) × EndsBelow types m (tip old) q

-- of some types in order, those from a type on; none where no type is given
abbrev pub from_on : Option ℕ → List ℕ → List ℕ
from_on end [] = []
from_on end (t ∷ ts) = cond (comes_before end t) (from_on end ts) (t ∷ ts)

-- The row r is the last of the children of h, of those of types before one if one is given.
pub record IsLastChild (types : List SegmentType) (m : Links) (h : ℕ) (end : Option ℕ) (r : ℕ) : Type 0 where
  pub some : 0 < r
  pub typed : is_child_type types (m.code h) (m.code r) ≡ true
  pub chain : IsInChain m (m.first_child h (m.code r)) r
  pub last : m.forward r ≡ 0
  pub rest : child_among m h (later_than (m.code r) (child_types types (m.code h))) ≡ child_among m h (from_on end (child_types types (m.code h)))

-- The address r is that of the last child of h, of a type before one if one is given; or it is 0, and there is none.
abbrev pub IsLastOrNone : List SegmentType → Links → ℕ → Option ℕ → ℕ → Type 0
IsLastOrNone types m h end r =
    ((r ≡ 0) × (child_among m h (child_types types (m.code h)) ≡ child_among m h (from_on end (child_types types (m.code h))))) ⊎ IsLastChild types m h end r

-- Just before the last row of a path stands r below the same parent; or r is 0, and the row before is the parent.
abbrev pub IsSiblingBefore : List SegmentType → Links → List ℕ → ℕ → Type 0
IsSiblingBefore types m path r =
    ((r ≡ 0) × (next_row types m (take (length path - 1) path) ≡ tip path))
    ⊎ ((0 < r) × LeadsDown types m 0 (take (length path - 1) path ++ r ∷ []) × (beside types m (parent_on path) r ≡ tip path))

-- What can be wrong with the pointers of a volume whose blocks are right: one word for each line of the fault table, with
-- where the fault stands and what else it names, 0 where it names nothing. Each phase supposes that no earlier fault stands.
use Rattle.std.specs.Prelude.{◌≡◌, ◌≢◌, ◌⊎◌, ℕ, ◌<◌, List, [], ◌∷◌, ◌++◌, Bool, true, false, not, ◌&&◌, ◌==◌, cond, Some, option_map, find}
use Rattle.hd_dbd.specs.Types.{SegmentType}
use Rattle.hd_dbd.specs.Prefixes.{is_backward_kept}
use Rattle.hd_dbd.specs.Rows.{twins_in_order}
use Rattle.hd_links.specs.Links.{Links, IsSegment, segment_at, child_types, is_child_type, is_last_kept}
use Rattle.hd_links.specs.Pointers.{IsTwinBefore, IsParentOfFirst, Precedes, IsInChain, IsReached}

-- ---- phase 3: delete bytes, and what pointers name

-- what a pointer names, and the type that its own sort demands
pub record Named : Type 0 where
  pub address : ℕ
  pub type_code : ℕ

-- the pointers of a record to children of these types, in prefix order: first child of each, and last child where it is kept
abbrev pub child_pointers : List SegmentType → Links → ℕ → List ℕ → List Named
child_pointers types m h [] = []
child_pointers types m h (t ∷ ts) =
    record { address = m.first_child h t; type_code = t }
    ∷ cond (is_last_kept types t) (record { address = m.last_child h t; type_code = t } ∷ child_pointers types m h ts) (child_pointers types m h ts)

-- the pointers of a segment to its twins: forward, and backward where it is kept
abbrev pub twin_pointers : List SegmentType → Links → ℕ → List Named
twin_pointers types m a =
    record { address = m.forward a; type_code = m.code a }
    ∷ cond (is_backward_kept types (m.code a)) (record { address = m.backward a; type_code = m.code a } ∷ []) []

-- all pointers of a record in prefix order; the header's are first and last root
abbrev pub pointers_of : List SegmentType → Links → ℕ → List Named
pointers_of types m h = cond (h == 0) (child_pointers types m h (1 ∷ [])) (twin_pointers types m h ++ child_pointers types m h (child_types types (m.code h)))

-- the pointer names no segment's place
abbrev pub names_none : Links → Named → Bool
names_none m p = not (p.address == 0) && not (m.here p.address)

-- the pointer names a segment of another type
abbrev pub names_another : Links → Named → Bool
names_another m p = not (p.address == 0) && m.here p.address && not (m.code p.address == p.type_code)

-- 6: a delete byte is not 0
abbrev pub IsDeleted : Links → ℕ → ℕ → Type 0
IsDeleted m a other = IsSegment m a × (0 < m.delete_byte a) × (other ≡ m.delete_byte a)

-- 7: a pointer names no segment's place
abbrev pub PointsNowhere : List SegmentType → Links → ℕ → ℕ → Type 0
PointsNowhere types m h other = (m.here h ≡ true) × (option_map (λ p. p.address) (find (λ p. names_none m p) (pointers_of types m h)) ≡ Some other)

-- 8: a pointer names a segment of another type
abbrev pub PointsToAnother : List SegmentType → Links → ℕ → ℕ → Type 0
PointsToAnother types m h other = (m.here h ≡ true) × (option_map (λ p. p.address) (find (λ p. names_another m p) (pointers_of types m h)) ≡ Some other)

-- ---- phase 4: predecessors

-- 9: a segment has a second predecessor, by address
abbrev pub HasTwoPredecessors : List SegmentType → Links → ℕ → ℕ → Type 0
HasTwoPredecessors types m a other =
    (g : ℕ) × IsSegment m a × Precedes types m g a × Precedes types m other a × (g < other)
    × ((h : ℕ) → Precedes types m h a → h < other → h ≡ g)

-- 10: a segment has no predecessor
abbrev pub HasNoPredecessor : List SegmentType → Links → ℕ → ℕ → Type 0
HasNoPredecessor types m a other = IsSegment m a × ((h : ℕ) → Precedes types m h a → ⊥) × (other ≡ 0)

-- ---- phase 5: twin backward and last child

-- 11: twin backward is not the preceding twin, or not 0 where a first child pointer precedes
abbrev pub IsWrongBackward : List SegmentType → Links → ℕ → ℕ → Type 0
IsWrongBackward types m a other =
    IsSegment m a × (is_backward_kept types (m.code a) ≡ true) × (other ≡ m.backward a)
    × (((h : ℕ) × IsTwinBefore m h a × (m.backward a ≢ h)) ⊎ ((h t : ℕ) × IsParentOfFirst types m h t a × (m.backward a ≢ 0)))

-- of first and last child of a type just one is 0, or the last is not the last twin of the chain from the first
abbrev pub IsWrongLast : Links → ℕ → ℕ → Type 0
IsWrongLast m h t =
    ((m.first_child h t ≡ 0) × (m.last_child h t ≢ 0))
    ⊎ ((m.first_child h t ≢ 0) × (IsInChain m (m.first_child h t) (m.last_child h t) → m.forward (m.last_child h t) ≢ 0))

-- 12, and 20 of the header: of a child type last child is wrong, the first such type in order of code
abbrev pub HasWrongLast : List SegmentType → Links → ℕ → ℕ → Type 0
HasWrongLast types m h other =
    (t : ℕ) × (m.here h ≡ true) × (is_child_type types (m.code h) t ≡ true) × (is_last_kept types t ≡ true) × IsWrongLast m h t × (other ≡ m.last_child h t)
    × ((u : ℕ) → u < t → is_child_type types (m.code h) u ≡ true → is_last_kept types u ≡ true → IsWrongLast m h u → ⊥)

-- ---- phase 6: keys

-- 13: the key of a twin is less than that of the preceding twin, or equal where it is unique
abbrev pub IsOutOfOrder : List SegmentType → Links → ℕ → ℕ → Type 0
IsOutOfOrder types m a other = IsSegment m a × IsTwinBefore m other a × (twins_in_order types (segment_at m other) (segment_at m a) ≡ false)

-- ---- phase 7: reached

-- 14: a segment is not reached from the header
abbrev pub IsNotReached : List SegmentType → Links → ℕ → ℕ → Type 0
IsNotReached types m a other = IsSegment m a × ((n : ℕ) → IsReached types m n a → ⊥) × (other ≡ 0)

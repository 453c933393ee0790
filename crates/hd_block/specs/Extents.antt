-- The extents that fill a data block from offset 8: free elements, and segments.
use Rattle.std.specs.Prelude.{◌≡◌, ◌≢◌, ◌⊎◌, ℕ, ◌+◌, ◌%◌, ◌≤◌, List, [], ◌∷◌, length}
use Rattle.hd_bytes.specs.Numbers.{number_at}
use Rattle.hd_dbd.specs.declared.facts.SegmentSize.{SegmentSize}
use Rattle.hd_block.specs.Sizes.{size_at}

-- A free element, a segment, or room that was handed out and has no segment yet, each with its length.
pub data Extent : Type 0 where
  free : ℕ → Extent
  used : ℕ → Extent
  taken : ℕ → Extent

-- A free element of n bytes: its length in bytes 2 and 3, a multiple of 8, and a task identifier of 0 in bytes 4 to 7.
pub record IsFreeElement (bytes : List ℕ) (place n : ℕ) : Type 0 where
  pub len : number_at 2 bytes (place + 2) ≡ n
  pub task : number_at 4 bytes (place + 4) ≡ 0
  pub some : 8 ≤ n
  pub whole : n % 8 ≡ 0

-- A hole of n bytes: a free element, and the next one, as its first two bytes say, does not begin where it ends.
pub record IsHole (bytes : List ℕ) (place n : ℕ) : Type 0 where
  pub element : IsFreeElement bytes place n
  pub apart : number_at 2 bytes place ≢ place + n

-- A segment of n bytes, as its type's segments take, or as it says.
pub record IsSegment (sizes : List SegmentSize) (bytes : List ℕ) (place n : ℕ) : Type 0 where
  pub size : size_at sizes bytes place ≡ n
  pub some : 8 ≤ n
  pub whole : n % 8 ≡ 0

-- From a place on, where the next free element begins at `next` (0 for none), the bytes are these extents.
abbrev pub Fill : List SegmentSize → List ℕ → ℕ → ℕ → List Extent → Type 0
Fill sizes bytes place next [] = (place ≡ length bytes) × (next ≡ 0)
Fill sizes bytes place next (free n ∷ xs) = (place ≡ next) × IsHole bytes place n × Fill sizes bytes (place + n) (number_at 2 bytes place) xs
Fill sizes bytes place next (used n ∷ xs) = (place ≢ next) × IsSegment sizes bytes place n × Fill sizes bytes (place + n) next xs
Fill sizes bytes place next (taken n ∷ xs) = (place ≢ next) × (8 ≤ n) × (n % 8 ≡ 0) × Fill sizes bytes (place + n) next xs

-- A data block is divided into these extents: they fill it from offset 8, and its first two bytes name the first free
-- element.
abbrev pub IsDivided : List SegmentSize → List ℕ → List Extent → Type 0
IsDivided sizes bytes xs = Fill sizes bytes 8 (number_at 2 bytes 0) xs

-- all room that was handed out has its segment
abbrev pub AreWhole : List Extent → Type 0
AreWhole [] = Unit {0}
AreWhole (free n ∷ xs) = AreWhole xs
AreWhole (used n ∷ xs) = AreWhole xs
AreWhole (taken n ∷ xs) = ⊥

-- of extents that begin at p, there is a segment of n bytes at this place
abbrev pub UsedAt : ℕ → List Extent → ℕ → ℕ → Type 0
UsedAt p [] place n = ⊥
UsedAt p (free k ∷ xs) place n = UsedAt (p + k) xs place n
UsedAt p (used k ∷ xs) place n = ((p ≡ place) × (k ≡ n)) ⊎ UsedAt (p + k) xs place n
UsedAt p (taken k ∷ xs) place n = UsedAt (p + k) xs place n

-- of extents that begin at p, room of n bytes at this place was handed out
abbrev pub TakenAt : ℕ → List Extent → ℕ → ℕ → Type 0
TakenAt p [] place n = ⊥
TakenAt p (free k ∷ xs) place n = TakenAt (p + k) xs place n
TakenAt p (used k ∷ xs) place n = TakenAt (p + k) xs place n
TakenAt p (taken k ∷ xs) place n = ((p ≡ place) × (k ≡ n)) ⊎ TakenAt (p + k) xs place n

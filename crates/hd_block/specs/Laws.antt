-- Laws of divided blocks, whatever bytes the segments of each type take.
use Rattle.std.specs.Prelude.{◌≡◌, ◌⊎◌, ℕ, ◌+◌, ◌%◌, ◌<◌, ◌≤◌, List}
use Rattle.hd_bytes.specs.Ranges.{ChangesOnly}
use Rattle.hd_block.specs.Extents.{Extent, IsDivided, AreWhole, UsedAt, TakenAt}
use Rattle.hd_block.specs.Changes.{after_fill, after_shrink}
use Rattle.hd_dbd.specs.declared.facts.SegmentSize.{SegmentSize}
use Rattle.hd_block.specs.Sizes.{size_at}

-- A block has at most one division into free elements and segments.
abbrev pub OneDivision : Type 0
OneDivision =
    (sizes : List SegmentSize) (bytes : List ℕ) (xs ys : List Extent) → IsDivided sizes bytes xs → AreWhole xs → IsDivided sizes bytes ys → AreWhole ys → xs ≡ ys

-- A change inside a segment that leaves it its size keeps the division.
abbrev pub WritesKeepDivision : Type 0
WritesKeepDivision =
    (sizes : List SegmentSize) (old new : List ℕ) (xs : List Extent) (place n : ℕ) → IsDivided sizes old xs → UsedAt 8 xs place n
    → ChangesOnly place n old new → size_at sizes new place ≡ n → IsDivided sizes new xs

-- A segment that is put where room of its size was handed out takes that room.
abbrev pub RoomIsFilled : Type 0
RoomIsFilled =
    (sizes : List SegmentSize) (old new : List ℕ) (xs : List Extent) (place n : ℕ) → IsDivided sizes old xs → TakenAt 8 xs place n
    → ChangesOnly place n old new → size_at sizes new place ≡ n → IsDivided sizes new (after_fill place 8 xs)

-- A shorter segment that is written where one stood leaves the rest as room that was handed out.
abbrev pub SegmentsShrink : Type 0
SegmentsShrink =
    (sizes : List SegmentSize) (old new : List ℕ) (xs : List Extent) (place n m : ℕ) → IsDivided sizes old xs → UsedAt 8 xs place n
    → ChangesOnly place n old new → size_at sizes new place ≡ m → 8 ≤ m → m % 8 ≡ 0 → m < n → IsDivided sizes new (after_shrink place m 8 xs)

-- Two segments of a block are one, or apart.
abbrev pub SegmentsAreApart : Type 0
SegmentsAreApart =
    (xs : List Extent) (p n q m : ℕ) → UsedAt 8 xs p n → UsedAt 8 xs q m → ((p ≡ q) × (n ≡ m)) ⊎ (p + n ≤ q) ⊎ (q + m ≤ p)

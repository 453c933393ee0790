-- What taking room in a block and giving it back do to its bytes, whatever its division.
use Rattle.std.specs.Prelude.{◌≡◌, ◌≢◌, ◌⊎◌, ℕ, List, Option, OnSome, IfNone}
use Rattle.hd_bytes.specs.Ranges.{AgreeOn}
use Rattle.hd_block.specs.Extents.{Extent, IsDivided, UsedAt, TakenAt}
use Rattle.hd_block.specs.Changes.{hole_at, after_take, after_give}
use Rattle.hd_dbd.specs.declared.facts.SegmentSize.{SegmentSize}

-- The front of the first hole of this size was taken, or there is none and nothing was changed. The block's head, past its
-- first two bytes, and its segments stay.
pub record IsTaken (sizes : List SegmentSize) (size : ℕ) (old : List ℕ) (result : Option ℕ) (new : List ℕ) : Type 0 where
  pub found : (xs : List Extent) → IsDivided sizes old xs → result ≡ hole_at size 8 xs
  pub after : (xs : List Extent) → IsDivided sizes old xs → OnSome result (IsDivided sizes new (after_take size xs))
  pub none : IfNone result (new ≡ old)
  pub head : AgreeOn 2 6 old new
  pub others : (xs : List Extent) (q n : ℕ) → IsDivided sizes old xs → UsedAt 8 xs q n → AgreeOn q n old new

-- The segment, or the room, of so many bytes at an offset was given back. The block's head, past its first two bytes, and
-- its other segments stay.
pub record IsGiven (sizes : List SegmentSize) (offset size : ℕ) (old new : List ℕ) : Type 0 where
  pub after : (xs : List Extent) → IsDivided sizes old xs → UsedAt 8 xs offset size ⊎ TakenAt 8 xs offset size → IsDivided sizes new (after_give offset 8 xs)
  pub head : AgreeOn 2 6 old new
  pub others : (xs : List Extent) (q n : ℕ) → IsDivided sizes old xs → UsedAt 8 xs offset size ⊎ TakenAt 8 xs offset size → UsedAt 8 xs q n → q ≢ offset → AgreeOn q n old new

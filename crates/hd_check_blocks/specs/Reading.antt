-- Room for a segment in a block that is read.
use Rattle.std.specs.Prelude.{◌≡◌, ◌⊎◌, ℕ, ◌+◌, ◌<◌, ◌≤◌, List, length, Option, MatchOption}
use Rattle.hd_image.specs.BlockFaults.{IsNoSegment, IsReadTo, HasFreeElements}
use Rattle.hd_check_blocks.specs.declared.wrong_place.Reading.{Reading}
use Rattle.hd_dbd.specs.declared.facts.SegmentSize.{SegmentSize}

-- A segment of so many bytes fits at a place: within the block, and before the next free element, if that stands behind it.
pub record IsRoom (block : List ℕ) (place next size : ℕ) : Type 0 where
  pub some : 0 < size
  pub within : place + size ≤ length block
  pub before : (next ≤ place) ⊎ (place + size ≤ next)

-- where a block is read on behind a segment of a size at a place, where it has room; nowhere, where it has none
abbrev pub IsReadOn : List ℕ → ℕ → ℕ → ℕ → Option Reading → Type 0
IsReadOn block place next size behind =
    MatchOption behind (IsRoom block place next size → ⊥) (λ r. IsRoom block place next size × (r ≡ record { place = place + size; next = next }))

-- Read from its front on, the block comes to a place where neither a free element nor a segment stands.
abbrev pub HasWrongPlace : List SegmentSize → List ℕ → ℕ → Type 0
HasWrongPlace sizes block place =
    (places : List ℕ) → HasFreeElements block places
    → (way : List ℕ) × IsReadTo sizes block places 8 way place × (place < length block) × IsNoSegment sizes block places place

-- What taking and giving room do to the extents of a block.
use Rattle.std.specs.Prelude.{◌≢◌, ◌⊎◌, ℕ, ◌+◌, ◌-◌, nat_le, ◌==◌, cond, List, [], ◌∷◌, Option, Some, None, OnSome}
use Rattle.hd_bytes.specs.Ranges.{AgreeOn}
use Rattle.hd_block.specs.Extents.{Extent, free, used, taken, IsDivided, UsedAt, TakenAt}
use Rattle.hd_dbd.specs.declared.facts.SegmentSize.{SegmentSize}

-- ---- taking

-- of extents that begin at p, where the first hole of that size or more begins
abbrev pub hole_at : ℕ → ℕ → List Extent → Option ℕ
hole_at size p [] = None
hole_at size p (free n ∷ xs) = cond (nat_le size n) (Some p) (hole_at size (p + n) xs)
hole_at size p (used n ∷ xs) = hole_at size (p + n) xs
hole_at size p (taken n ∷ xs) = hole_at size (p + n) xs

-- a hole of n bytes whose front is taken, before other extents
abbrev pub split_hole : ℕ → ℕ → List Extent → List Extent
split_hole size n xs = taken size ∷ cond (n == size) xs (free (n - size) ∷ xs)

-- the extents after the front of the first large enough hole is taken
abbrev pub after_take : ℕ → List Extent → List Extent
after_take size [] = []
after_take size (free n ∷ xs) = cond (nat_le size n) (split_hole size n xs) (free n ∷ after_take size xs)
after_take size (used n ∷ xs) = used n ∷ after_take size xs
after_take size (taken n ∷ xs) = taken n ∷ after_take size xs

-- of extents that begin at p, those after room that was handed out at a place has got its segment
abbrev pub after_fill : ℕ → ℕ → List Extent → List Extent
after_fill place p [] = []
after_fill place p (free n ∷ xs) = free n ∷ after_fill place (p + n) xs
after_fill place p (used n ∷ xs) = used n ∷ after_fill place (p + n) xs
after_fill place p (taken n ∷ xs) = cond (p == place) (used n ∷ xs) (taken n ∷ after_fill place (p + n) xs)

-- of extents that begin at p, those after the segment at a place was made shorter: what it no longer takes is room that was handed out
abbrev pub after_shrink : ℕ → ℕ → ℕ → List Extent → List Extent
after_shrink place m p [] = []
after_shrink place m p (free n ∷ xs) = free n ∷ after_shrink place m (p + n) xs
after_shrink place m p (used n ∷ xs) = cond (p == place) (used m ∷ taken (n - m) ∷ xs) (used n ∷ after_shrink place m (p + n) xs)
after_shrink place m p (taken n ∷ xs) = taken n ∷ after_shrink place m (p + n) xs

-- ---- giving back

-- a hole of n bytes before other extents, joined to a hole that begins them
abbrev pub hole_before : ℕ → List Extent → List Extent
hole_before n [] = free n ∷ []
hole_before n (free m ∷ xs) = free (n + m) ∷ xs
hole_before n (used m ∷ xs) = free n ∷ used m ∷ xs
hole_before n (taken m ∷ xs) = free n ∷ taken m ∷ xs

-- Of extents that begin at p, those after the segment or the room at a place is freed: just that extent becomes a hole,
-- which is joined to the holes beside it.
abbrev pub after_give : ℕ → ℕ → List Extent → List Extent
after_give place p [] = []
after_give place p (free n ∷ xs) = hole_before n (after_give place (p + n) xs)
after_give place p (used n ∷ xs) = cond (p == place) (hole_before n xs) (used n ∷ after_give place (p + n) xs)
after_give place p (taken n ∷ xs) = cond (p == place) (hole_before n xs) (taken n ∷ after_give place (p + n) xs)

-- ---- room that is given back

-- there is a segment at this place, or room that was handed out, of n bytes
abbrev pub IsHeldAt : List Extent → ℕ → ℕ → Type 0
IsHeldAt xs place n = UsedAt 8 xs place n ⊎ TakenAt 8 xs place n

-- Where room of a size was taken from a block, if it was, the block is divided as after that.
abbrev pub IsTakenFrom : List SegmentSize → List ℕ → ℕ → Option ℕ → List ℕ → Type 0
IsTakenFrom sizes old size place new = (xs : List Extent) → IsDivided sizes old xs → OnSome place (IsDivided sizes new (after_take size xs))

-- Every segment keeps its bytes.
abbrev pub KeepsSegments : List SegmentSize → List ℕ → List ℕ → Type 0
KeepsSegments sizes old new = (xs : List Extent) (q n : ℕ) → IsDivided sizes old xs → UsedAt 8 xs q n → AgreeOn q n old new

-- Where a segment or room of a size stood at an offset, the block is divided as after it was given back.
abbrev pub IsGivenBack : List SegmentSize → List ℕ → ℕ → ℕ → List ℕ → Type 0
IsGivenBack sizes old offset size new = (xs : List Extent) → IsDivided sizes old xs → IsHeldAt xs offset size → IsDivided sizes new (after_give offset 8 xs)

-- Every segment but the one at the offset keeps its bytes.
abbrev pub KeepsOthers : List SegmentSize → List ℕ → ℕ → ℕ → List ℕ → Type 0
KeepsOthers sizes old offset size new =
    (xs : List Extent) (q n : ℕ) → IsDivided sizes old xs → IsHeldAt xs offset size → UsedAt 8 xs q n → q ≢ offset → AgreeOn q n old new

-- What a reader of a block finds, whatever its bytes are: parts up to the first place where there is none that fits.
use Rattle.std.specs.Prelude.{◌≡◌, ⊤, ◌≤◌, ℕ, zero, suc, ◌+◌, ◌-◌, ◌==◌, ◌&&◌, nat_le, Bool, cond, List, [], ◌∷◌, length}
use Rattle.hd_bytes.specs.Numbers.{number_at}
use Rattle.hd_block.specs.declared.parts.Part.{Part}
use Rattle.hd_block.specs.declared.parts.Step.{Step}
use Rattle.hd_block.specs.declared.parts.Part.TheVariants.{Free, Used}
use Rattle.hd_dbd.specs.declared.facts.SegmentSize.{SegmentSize}
use Rattle.hd_block.specs.Sizes.{size_at}

-- a part of n bytes at a place has room for an element, and ends within the block
abbrev pub part_fits : List ℕ → ℕ → ℕ → Bool
part_fits bytes place n = nat_le 8 n && nat_le (place + n) (length bytes)

-- At most so many parts from a place on, where the next free element begins at `next`.
unfoldable pub walk_parts : List SegmentSize → List ℕ → ℕ → ℕ → ℕ → List Part
walk_parts sizes bytes zero place next = []
walk_parts sizes bytes (suc more) place next =
    cond (place == next)
    (cond (part_fits bytes place (number_at 2 bytes (place + 2)))
    (Free place (number_at 2 bytes (place + 2)) ∷ walk_parts sizes bytes more (place + number_at 2 bytes (place + 2)) (number_at 2 bytes place))
    [])
    (cond (part_fits bytes place (size_at sizes bytes place))
    (Used place (size_at sizes bytes place) ∷ walk_parts sizes bytes more (place + size_at sizes bytes place) next)
    [])

-- all parts from a place on
abbrev pub parts_from : List SegmentSize → List ℕ → ℕ → ℕ → List Part
parts_from sizes bytes place next = walk_parts sizes bytes (length bytes - place) place next

-- the parts of a block
abbrev pub parts_in : List SegmentSize → List ℕ → List Part
parts_in sizes bytes = parts_from sizes bytes 8 (number_at 2 bytes 0)

-- The part at a place is the first of those from there on; the others follow from the place where it ends.
abbrev pub IsFirstPart : List SegmentSize → List ℕ → ℕ → ℕ → Step → Type 0
IsFirstPart sizes bytes place next s =
    (place + s.size ≤ length bytes) × (parts_from sizes bytes place next ≡ s.part ∷ parts_from sizes bytes (place + s.size) s.next)

-- no free part of these has more than so many bytes
abbrev pub HolesAreWithin : ℕ → List Part → Type 0
HolesAreWithin most [] = ⊤
HolesAreWithin most (Free p n ∷ parts) = (n ≤ most) × HolesAreWithin most parts
HolesAreWithin most (Used p n ∷ parts) = HolesAreWithin most parts

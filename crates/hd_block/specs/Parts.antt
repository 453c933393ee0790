-- What is read of a block: its free elements and segments, in order.
use Rattle.std.specs.Prelude.{ℕ, ◌+◌, max, List, [], ◌∷◌}
use Rattle.hd_block.specs.Extents.{Extent, free, used, taken}
use Rattle.hd_block.specs.declared.parts.Part.{Part}
use Rattle.hd_block.specs.declared.parts.Part.TheVariants.{Free, Used}

-- the free elements and segments among extents that begin at p, each with its offset and length
abbrev pub parts_of : ℕ → List Extent → List Part
parts_of p [] = []
parts_of p (free n ∷ xs) = Free p n ∷ parts_of (p + n) xs
parts_of p (used n ∷ xs) = Used p n ∷ parts_of (p + n) xs
parts_of p (taken n ∷ xs) = parts_of (p + n) xs

-- the length of the largest free element among extents
abbrev pub largest_free : List Extent → ℕ
largest_free [] = 0
largest_free (free n ∷ xs) = max n (largest_free xs)
largest_free (used n ∷ xs) = largest_free xs
largest_free (taken n ∷ xs) = largest_free xs

-- the bytes of all free elements among extents
abbrev pub free_bytes : List Extent → ℕ
free_bytes [] = 0
free_bytes (free n ∷ xs) = n + free_bytes xs
free_bytes (used n ∷ xs) = free_bytes xs
free_bytes (taken n ∷ xs) = free_bytes xs

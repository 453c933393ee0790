-- What a database keeps of each type, so that no layer works it out again.
use Rattle.std.specs.Prelude.{ℕ, zero, suc, ◌+◌, List, [], ◌∷◌, length}
use Rattle.std.specs.Option.{option_map_or}
use Rattle.hd_dbd.specs.Types.{SegmentType}
use Rattle.hd_dbd.specs.declared.facts.TypeFacts.{TypeFacts}
use Rattle.hd_dbd.specs.declared.facts.SegmentSize.{SegmentSize}
use Rattle.hd_dbd.specs.declared.facts.SegmentSize.TheVariants.{Fixed, Varying}
use Rattle.hd_dbd.specs.Hierarchy.{type_of, level_of}
use Rattle.hd_dbd.specs.Prefixes.{prefix_length, pointers_at, stored_size, children_of}

-- what a function says of so many codes, from code c on
abbrev pub table_from : {A : Type 0} → (ℕ → A) → ℕ → ℕ → List A
table_from f c zero = []
table_from f c (suc n) = f c ∷ table_from f (c + 1) n

-- the level, the length of the prefix, where its pointers stand in its parent's prefix, and the greatest size in a block
abbrev pub facts_at : List SegmentType → ℕ → TypeFacts
facts_at types c = record { level = level_of types c; prefix = prefix_length types c; pointers = pointers_at types c; size = stored_size types c }

abbrev pub facts_of : List SegmentType → List TypeFacts
facts_of types = table_from (facts_at types) 1 (length types)

-- the codes of the children of each type
abbrev pub children_lists : List SegmentType → List (List ℕ)
children_lists types = table_from (children_of types) 1 (length types)

-- the bytes that segments of the type take in a block: so many each, or, where they vary, as many as each says behind its prefix
abbrev pub size_of_type : List SegmentType → ℕ → SegmentType → SegmentSize
size_of_type types c t = option_map_or (λ least. Varying (prefix_length types c) least t.length) t.least (Fixed (stored_size types c))

-- the same of the type of a code, 0 each where there is no type
abbrev pub segment_size : List SegmentType → ℕ → SegmentSize
segment_size types c = option_map_or (λ t. size_of_type types c t) (type_of types c) (Fixed 0)

-- the bytes that the segments of each type take in a block, by code; none of code 0
abbrev pub stored_sizes : List SegmentType → List SegmentSize
stored_sizes types = Fixed 0 ∷ table_from (segment_size types) 1 (length types)

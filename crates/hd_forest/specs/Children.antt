-- The first children that a stored segment names.
use Rattle.std.specs.Prelude.{ℕ, List, [], ◌∷◌, Bool, true, ◌==◌, nat_lt, cond, Option}
use Rattle.std.specs.Option.{option_map_or}
use Rattle.hd_dbd.specs.Types.{SegmentType}
use Rattle.hd_prefix.specs.declared.pointer.Pointer.TheVariants.{FirstChild}
use Rattle.hd_prefix.specs.Fields.{code_of, pointer_of}
use Rattle.hd_links.specs.Links.{Links, child_types}
use Rattle.hd_links.specs.Steps.{first_some, child_among, later_than}

-- the first child of a stored segment, of these types in order; 0 for none
abbrev pub child_in : List SegmentType → List ℕ → List ℕ → ℕ
child_in types segment [] = 0
child_in types segment (t ∷ ts) = first_some (pointer_of types (code_of segment) (FirstChild t) segment) (child_in types segment ts)

-- a type comes before another, if one is given
abbrev pub comes_before : Option ℕ → ℕ → Bool
comes_before end t = option_map_or (λ c. nat_lt t c) end true

-- Of some types in order, up to before one if one is given, the last of which a record names a first child; else the one given.
abbrev pub last_named : Links → ℕ → Option ℕ → ℕ → List ℕ → ℕ
last_named m h end last [] = last
last_named m h end last (t ∷ ts) = cond (comes_before end t) (last_named m h end (cond (m.first_child h t == 0) last t) ts) last

-- the same of a stored segment
abbrev pub last_named_in : List SegmentType → List ℕ → Option ℕ → ℕ → List ℕ → ℕ
last_named_in types segment end last [] = last
last_named_in types segment end last (t ∷ ts) =
    cond (comes_before end t) (last_named_in types segment end (cond (pointer_of types (code_of segment) (FirstChild t) segment == 0) last t) ts) last

-- the last child type of which the segment h has rows, up to before one if one is given; 0 for none
abbrev pub last_type_of : List SegmentType → Links → ℕ → Option ℕ → ℕ
last_type_of types m h end = last_named m h end 0 (child_types types (m.code h))

-- the first child of h of a type behind a type; 0 for none
abbrev pub child_behind : List SegmentType → Links → ℕ → ℕ → ℕ
child_behind types m h code = child_among m h (later_than code (child_types types (m.code h)))

-- what stands beside y, a child of h: its next twin, or the first child of h of a later type; 0 for none
abbrev pub beside : List SegmentType → Links → ℕ → ℕ → ℕ
beside types m h y = first_some (m.forward y) (child_behind types m h (m.code y))

-- The comparisons of a qualification as they are kept.
use Rattle.std.specs.Prelude.{◌≡◌, List, [], ◌∷◌, ⊤, None, Ok}
use Rattle.hd_calls.specs.Ssas.{Comparison, read_qualification}
use Rattle.hd_ssa.specs.declared.qualification.Comparisons.{Comparisons}
use Rattle.hd_ssa.specs.declared.qualification.Comparisons.TheVariants.{One, More}
use Rattle.hd_ssa.specs.Texts.{groups_in, single_of}

-- the groups of a qualification: its only comparison, or what its text says
abbrev pub groups_of : Comparisons → List (List Comparison)
groups_of (One c) = (c ∷ []) ∷ []
groups_of (More segment text) = groups_in segment.now text.now

-- A qualification that is kept by its text is one, and has more than one comparison.
abbrev pub IsReadWhole : Comparisons → Type 0
IsReadWhole (One c) = ⊤
IsReadWhole (More segment text) =
    (read_qualification segment.now text.now ≡ Ok (groups_in segment.now text.now))
    × (single_of (groups_in segment.now text.now) ≡ None)

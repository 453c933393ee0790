-- The key below which no row has a qualification.
use Rattle.std.specs.Prelude.{◌≡◌, ℕ, List, [], ◌∷◌, Bool, true, false, ◌&&◌, cond, Option, Some, None, option_and_then}
use Rattle.std.specs.Ordering.{nat_cmp, is_lt}
use Rattle.std.specs.Cmp.Lexicographic.{slice_cmp}
use Rattle.hd_dbd.specs.declared.hierarchy.Key.{Key}
use Rattle.hd_dbd.specs.Hierarchy.{part_of}
use Rattle.hd_dbd.specs.Segment.{Segment}
use Rattle.hd_calls.specs.declared.call.Operator.{Operator}
use Rattle.hd_calls.specs.declared.call.Operator.TheVariants.{Equal, AtLeast, AtMost, Greater, Less, NotEqual}
use Rattle.hd_calls.specs.Ssas.{Comparison, Ssa}
use Rattle.hd_calls.specs.Satisfies.{qualifies}
use Rattle.hd_calls.specs.SearchKeys.{is_of_key}

-- the first key is less than the second
abbrev pub is_less : List ℕ → List ℕ → Bool
is_less a b = is_lt (slice_cmp nat_cmp a b)

-- EQ, GE and GT accept nothing below the value
abbrev pub refuses_below : Operator → Bool
refuses_below Equal = true
refuses_below AtLeast = true
refuses_below Greater = true
refuses_below AtMost = false
refuses_below Less = false
refuses_below NotEqual = false

-- the value of a comparison of the whole key that is true of no lesser key
abbrev pub bound_of : Key → Comparison → Option (List ℕ)
bound_of k c = cond (is_of_key k c && refuses_below c.operator) (Some c.value) None

-- the greater of two keys, or the only one
abbrev pub greater_of : Option (List ℕ) → Option (List ℕ) → Option (List ℕ)
greater_of None b = b
greater_of (Some a) None = Some a
greater_of (Some a) (Some b) = cond (is_less a b) (Some b) (Some a)

-- the lesser of a key, where there is one, and another
abbrev pub lesser_of : Option (List ℕ) → List ℕ → List ℕ
lesser_of None b = b
lesser_of (Some a) b = cond (is_less b a) b a

-- the greatest of a key and the bounds of a group's comparisons, if there is one
abbrev pub greatest_bound : Key → Option (List ℕ) → List Comparison → Option (List ℕ)
greatest_bound k bound [] = bound
greatest_bound k bound (c ∷ cs) = greatest_bound k (greater_of bound (bound_of k c)) cs

-- the least of a key and the groups' greatest bounds, where each group has one
abbrev pub least_bound : Key → Option (List ℕ) → List (List Comparison) → Option (List ℕ)
least_bound k least [] = least
least_bound k least (group ∷ groups) =
    option_and_then (λ bound. least_bound k (Some (lesser_of least bound)) groups) (greatest_bound k None group)

-- The least key of an SSA: of the groups of its qualification, the least of their greatest bounds. There is none where it has no
-- qualification, or a group of it has no bound.
abbrev pub least_key : Key → Ssa → Option (List ℕ)
least_key k a = option_and_then (λ groups. least_bound k None groups) a.groups

-- No row whose key is less qualifies.
abbrev pub NoneQualifiesBelow : Key → Ssa → List ℕ → Type 0
NoneQualifiesBelow k a value = (r : Segment) → is_less (part_of r.bytes k.start k.length) value ≡ true → qualifies a r ≡ false

-- the least bound of groups, where these are the least of the groups before them and the greatest of the comparisons before the first's
abbrev pub least_behind : Key → Option (List ℕ) → Option (List ℕ) → List (List Comparison) → Option (List ℕ)
least_behind k least bound [] = least
least_behind k least bound (group ∷ groups) =
    option_and_then (λ b. least_bound k (Some (lesser_of least b)) groups) (greatest_bound k bound group)

-- The key that a qualification asks for, where it asks for that and nothing else.
use Rattle.std.specs.Prelude.{◌≡◌, List, ℕ, Bool, true, false, ◌&&◌, cond, Option, Some, None, option_and_then}
use Rattle.hd_dbd.specs.declared.hierarchy.Key.{Key}
use Rattle.hd_dbd.specs.Hierarchy.{part_of}
use Rattle.hd_dbd.specs.Segment.{Segment}
use Rattle.hd_calls.specs.declared.call.Operator.{Operator}
use Rattle.hd_calls.specs.declared.call.Operator.TheVariants.{Equal, AtLeast, AtMost, Greater, Less, NotEqual}
use Rattle.hd_calls.specs.Ssas.{Comparison, Ssa}
use Rattle.hd_calls.specs.Satisfies.{qualifies}
use Rattle.hd_calls.specs.SearchKeys.{is_of_key}
use Rattle.hd_ssa.specs.Texts.{single_of}

-- the operator is EQ, which accepts the value alone
abbrev pub is_equality : Operator → Bool
is_equality Equal = true
is_equality AtLeast = false
is_equality AtMost = false
is_equality Greater = false
is_equality Less = false
is_equality NotEqual = false

-- the value to which a comparison asks that the whole key is equal
abbrev pub equal_to : Key → Comparison → Option (List ℕ)
equal_to k c = cond (is_of_key k c && is_equality c.operator) (Some c.value) None

-- the value of an SSA's only comparison, where that asks that the whole key is equal to it
abbrev pub key_asked : Key → Ssa → Option (List ℕ)
key_asked k a = option_and_then (λ groups. option_and_then (λ c. equal_to k c) (single_of groups)) a.groups

-- Each row whose key is the value qualifies.
abbrev pub QualifiesByKey : Key → Ssa → List ℕ → Type 0
QualifiesByKey k a value = (r : Segment) → part_of r.bytes k.start k.length ≡ value → qualifies a r ≡ true

-- A row with the key that a qualification asks for has it.
use Rattle.std.proofs.Common.{◌≡◌, ℕ, List, [], ◌∷◌, Bool, true, false, cond, Option, Some, None, Bor, refl, sym, ap, ◌∙◌}
use Rattle.std.specs.Prelude.{◌&&◌, ◌||◌, option_and_then, option_copied, IfSome}
use Rattle.std.specs.Option.{option_map_or}
use Rattle.std.specs.List.{list_any, list_all}
use Rattle.std.specs.Ordering.{nat_cmp}
use Rattle.std.specs.Cmp.Lexicographic.{slice_cmp}
use Rattle.std.specs.Str.{bytes_eq}
use Rattle.std.proofs.lemmas.Bool.{and_parts, eqb-true}
use Rattle.std.proofs.lemmas.Cmp.{nat_list_eq_equiv}
use Rattle.std.proofs.lemmas.Map.Text.{is_eq-slice_cmp}
use Rattle.hd_dbd.specs.declared.hierarchy.Key.{Key}
use Rattle.hd_dbd.specs.Hierarchy.{part_of}
use Rattle.hd_dbd.specs.Segment.{Segment}
use Rattle.hd_calls.specs.declared.call.Operator.{Operator}
use Rattle.hd_calls.specs.declared.call.Operator.TheVariants.{Equal, AtLeast, AtMost, Greater, Less, NotEqual}
use Rattle.hd_calls.specs.Ssas.{Comparison, Ssa}
use Rattle.hd_calls.specs.Satisfies.{accepts, is_true_of, qualifies}
use Rattle.hd_calls.specs.SearchKeys.{is_of_key}
use Rattle.hd_ssa.specs.Texts.{single_of}
use Rattle.hd_ssa.specs.EqualKeys.{is_equality, equal_to, key_asked, QualifiesByKey}

-- EQ accepts what is equal
accepts_equal : (o : Operator) (xs ys : List ℕ) → is_equality o ≡ true → xs ≡ ys → accepts o (slice_cmp nat_cmp xs ys) ≡ true
accepts_equal Equal xs ys e same = is_eq-slice_cmp xs ys ∙ ap (bytes_eq xs) (sym same) ∙ nat_list_eq_equiv.refl xs
accepts_equal AtLeast xs ys e same = cc
accepts_equal AtMost xs ys e same = cc
accepts_equal Greater xs ys e same = cc
accepts_equal Less xs ys e same = cc
accepts_equal NotEqual xs ys e same = cc

module _ (k : Key) (value : List ℕ) (r : Segment) (own : part_of r.bytes k.start k.length ≡ value) where
  comparison_holds : (c : Comparison) → equal_to k c ≡ Some value → is_true_of r.bytes c ≡ true
  comparison_holds c is = by_test (is_of_key k c && is_equality c.operator) refl is
    where
      by_test : (b : Bool) → (is_of_key k c && is_equality c.operator) ≡ b → cond b (Some c.value) None ≡ Some value → is_true_of r.bytes c ≡ true
      by_test false e h = cc
      by_test true e h =
          (let same : c.value ≡ value = cc in
          let P = and_parts _ _ e in
          let Q = and_parts _ _ P.0 in
          let part : part_of r.bytes c.field.start c.field.length ≡ part_of r.bytes k.start k.length
          = ap (λ n. part_of r.bytes n c.field.length) (eqb-true c.field.start k.start Q.0) ∙ ap (λ n. part_of r.bytes k.start n) (eqb-true c.field.length k.length Q.1) in
          accepts_equal c.operator (part_of r.bytes c.field.start c.field.length) c.value P.1 (part ∙ own ∙ sym same))

  groups_hold : (groups : List (List Comparison)) → option_and_then (λ c. equal_to k c) (single_of groups) ≡ Some value
      → list_any (λ group. list_all (λ c. is_true_of r.bytes c) group) groups ≡ true
  groups_hold [] is = cc
  groups_hold ([] ∷ []) is = cc
  groups_hold ((c ∷ []) ∷ []) is = ap (λ b. (b && true) || false) (comparison_holds c is)
  groups_hold ((c ∷ d ∷ cs) ∷ []) is = cc
  groups_hold (g ∷ h ∷ groups) is = cc

pub qualifies_by_key : (k : Key) (a : Ssa) (value : List ℕ) → key_asked k a ≡ Some value → QualifiesByKey k a value
qualifies_by_key k a value is r own = by_groups a.groups is
  where
    by_groups : (o : Option (List (List Comparison))) → option_and_then (λ groups. option_and_then (λ c. equal_to k c) (single_of groups)) o ≡ Some value
        → option_map_or (λ groups. list_any (λ group. list_all (λ c. is_true_of r.bytes c) group) groups) o true ≡ true
    by_groups None e = cc
    by_groups (Some groups) e = groups_hold k value r own groups e

-- the same of a lent value
pub if_asked : (k : Key) (a : Ssa) (o : Option (Bor (List ℕ))) → option_copied o ≡ key_asked k a → IfSome o (λ v. QualifiesByKey k a v.now)
if_asked k a None is = tt
if_asked k a (Some v) is = qualifies_by_key k a v.now (sym is)

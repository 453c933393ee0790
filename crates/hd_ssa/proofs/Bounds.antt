-- No key below the least bound of groups has one of them.
use Rattle.std.proofs.Common.{◌≡◌, ℕ, List, [], ◌∷◌, Bool, true, false, ap, sym, ◌∙◌, refl, inl, inr, ◌⊎◌, Option, Some, None, Ordering, cond}
use Rattle.std.specs.declared.cmp.Ordering.TheVariants as order
use Rattle.std.proofs.Common.{Bor}
use Rattle.std.specs.Prelude.{◌&&◌, ◌||◌, option_and_then, option_copied, IfSome}
use Rattle.std.specs.Option.{option_map_or}
use Rattle.std.specs.List.{list_any, list_all}
use Rattle.std.specs.Ordering.{nat_cmp, is_lt, ordering_reverse}
use Rattle.std.specs.Cmp.Lexicographic.{slice_cmp}
use Rattle.std.proofs.lemmas.Cmp.{nat_list_cmp_total}
use Rattle.std.proofs.lemmas.Bool.{and_parts, eqb-true}
use Rattle.hd_dbd.specs.declared.hierarchy.Key.{Key}
use Rattle.hd_dbd.specs.Hierarchy.{part_of}
use Rattle.hd_calls.specs.declared.call.Operator.{Operator}
use Rattle.hd_calls.specs.declared.call.Operator.TheVariants.{Equal, AtLeast, AtMost, Greater, Less, NotEqual}
use Rattle.hd_calls.specs.Ssas.{Comparison, Ssa}
use Rattle.hd_calls.specs.Satisfies.{is_true_of, accepts}
use Rattle.hd_calls.specs.SearchKeys.{is_of_key}
use Rattle.hd_ssa.specs.LeastKeys.{is_less, refuses_below, bound_of, greater_of, lesser_of, greatest_bound, least_bound, least_key, NoneQualifiesBelow}

no_and : (b : Bool) → (b && false) ≡ false
no_and true = refl
no_and false = refl

is_less_order : (a b : List ℕ) → is_less a b ≡ true → slice_cmp nat_cmp a b ≡ order.Less
is_less_order a b less = of_order (slice_cmp nat_cmp a b) less
  where
    of_order : (o : Ordering) → is_lt o ≡ true → o ≡ order.Less
    of_order order.Less h = refl
    of_order order.Equal h = cc
    of_order order.Greater h = cc

-- what is less than a key is less than one that is not less than that
less_through : (x a b : List ℕ) → is_less x a ≡ true → is_less b a ≡ false → is_less x b ≡ true
less_through x a b less not_less = by_order (slice_cmp nat_cmp a b) refl
  where
    by_order : (o : Ordering) → slice_cmp nat_cmp a b ≡ o → is_less x b ≡ true
    by_order order.Less e = ap is_lt (nat_list_cmp_total.trans x a b (is_less_order x a less) e)
    by_order order.Equal e =
        (let back : slice_cmp nat_cmp b x ≡ slice_cmp nat_cmp a x = sym (nat_list_cmp_total.congr a b x e) in
        ap is_lt (nat_list_cmp_total.antisymm x b ∙ ap ordering_reverse back ∙ sym (nat_list_cmp_total.antisymm x a)) ∙ less)
    by_order order.Greater e =
        (let wrong : is_less b a ≡ true = ap is_lt (nat_list_cmp_total.antisymm b a ∙ ap ordering_reverse e) in cc)

less_trans : (x a b : List ℕ) → is_less x a ≡ true → is_less a b ≡ true → is_less x b ≡ true
less_trans x a b one two = ap is_lt (nat_list_cmp_total.trans x a b (is_less_order x a one) (is_less_order a b two))

-- ---- one comparison

refused : (o : Operator) (r : Ordering) → refuses_below o ≡ true → is_lt r ≡ true → accepts o r ≡ false
refused Equal order.Less h l = refl
refused Equal order.Equal h l = cc
refused Equal order.Greater h l = cc
refused AtLeast order.Less h l = refl
refused AtLeast order.Equal h l = cc
refused AtLeast order.Greater h l = cc
refused Greater order.Less h l = refl
refused Greater order.Equal h l = cc
refused Greater order.Greater h l = cc
refused AtMost r h l = cc
refused Less r h l = cc
refused NotEqual r h l = cc

module _ (k : Key) (bytes : List ℕ) where
  abbrev own : List ℕ
  own = part_of bytes k.start k.length

  -- below its bound a comparison is false
  comparison_fails : (c : Comparison) (v : List ℕ) → bound_of k c ≡ Some v → is_less own v ≡ true → is_true_of bytes c ≡ false
  comparison_fails c v is less = by_test (is_of_key k c && refuses_below c.operator) refl is
    where
      by_test : (b : Bool) → (is_of_key k c && refuses_below c.operator) ≡ b → cond b (Some c.value) None ≡ Some v → is_true_of bytes c ≡ false
      by_test false e h = cc
      by_test true e h =
          (let same : c.value ≡ v = cc in
          let P = and_parts _ _ e in
          let Q = and_parts _ _ P.0 in
          let part : part_of bytes c.field.start c.field.length ≡ own = ap (λ n. part_of bytes n c.field.length) (eqb-true c.field.start k.start Q.0) ∙ ap (λ n. part_of bytes k.start n) (eqb-true c.field.length k.length Q.1) in
          let low : is_lt (slice_cmp nat_cmp (part_of bytes c.field.start c.field.length) c.value) ≡ true = ap (λ xs. is_less xs c.value) part ∙ ap (is_less own) same ∙ less in
          refused c.operator (slice_cmp nat_cmp (part_of bytes c.field.start c.field.length) c.value) P.1 low)

  -- ---- one group

  -- what is less than the greater of two is less than one of them
  below_greater : (a b : Option (List ℕ)) (v : List ℕ) → greater_of a b ≡ Some v → (a ≡ Some v) ⊎ (b ≡ Some v)
  below_greater None b v is = inr is
  below_greater (Some a) None v is = inl is
  below_greater (Some a) (Some b) v is = by_less (is_less a b) is
    where
      by_less : (t : Bool) → cond t (Some b) (Some a) ≡ Some v → (Some a ≡ Some v) ⊎ (Some b ≡ Some v)
      by_less true h = inr h
      by_less false h = inl h

  -- below a group's greatest bound one of its comparisons is false, or it is the bound at the start
  group_fails : (bound : Option (List ℕ)) (group : List Comparison) (v : List ℕ) → greatest_bound k bound group ≡ Some v → is_less own v ≡ true
      → (bound ≡ Some v) ⊎ (list_all (λ c. is_true_of bytes c) group ≡ false)
  group_fails bound [] v is less = inl is
  group_fails bound (c ∷ group) v is less = elim (group_fails (greater_of bound (bound_of k c)) group v is less) [
    | inl here ↦ elim (below_greater bound (bound_of k c) v here) [
      | inl before ↦ inl before
      | inr own_ ↦ inr (ap (λ (b : Bool). b && list_all (λ c. is_true_of bytes c) group) (comparison_fails c v own_ less))
    ]
    | inr rest ↦ inr (ap (λ (b : Bool). is_true_of bytes c && b) rest ∙ no_and (is_true_of bytes c))
  ]

  -- ---- all groups

  -- the lesser of two keys is less than neither
  lesser_low : (least : Option (List ℕ)) (b : List ℕ) → is_less own (lesser_of least b) ≡ true → is_less own b ≡ true
  lesser_low None b less = less
  lesser_low (Some a) b less = by_less (is_less b a) refl less
    where
      by_less : (t : Bool) → is_less b a ≡ t → is_less own (cond t b a) ≡ true → is_less own b ≡ true
      by_less true e h = h
      by_less false e h = less_through own a b h e

  lesser_first : (a b : List ℕ) → is_less own (lesser_of (Some a) b) ≡ true → is_less own a ≡ true
  lesser_first a b less = by_less (is_less b a) refl less
    where
      by_less : (t : Bool) → is_less b a ≡ t → is_less own (cond t b a) ≡ true → is_less own a ≡ true
      by_less true e h = less_trans own b a h e
      by_less false e h = h

  -- what is below the least bound is below the one at the start
  least_low : (a : List ℕ) (groups : List (List Comparison)) (v : List ℕ) → least_bound k (Some a) groups ≡ Some v → is_less own v ≡ true → is_less own a ≡ true
  least_low a [] v is less = (let same : a ≡ v = cc in ap (is_less own) same ∙ less)
  least_low a (g ∷ groups) v is less = by_group (greatest_bound k None g) is (λ b h. least_low (lesser_of (Some a) b) groups v h less)
    where
      by_group : (o : Option (List ℕ)) → option_and_then (λ b. least_bound k (Some (lesser_of (Some a) b)) groups) o ≡ Some v
          → ((b : List ℕ) → least_bound k (Some (lesser_of (Some a) b)) groups ≡ Some v → is_less own (lesser_of (Some a) b) ≡ true) → is_less own a ≡ true
      by_group None h more = cc
      by_group (Some b) h more = lesser_first a b (more b h)

  groups_fail : (least : Option (List ℕ)) (groups : List (List Comparison)) (v : List ℕ) → least_bound k least groups ≡ Some v → is_less own v ≡ true
      → list_any (λ group. list_all (λ c. is_true_of bytes c) group) groups ≡ false
  groups_fail least [] v is less = refl
  groups_fail least (g ∷ groups) v is less = by_group (greatest_bound k None g) refl is (λ b h. groups_fail (Some (lesser_of least b)) groups v h less)
    where
      by_group : (o : Option (List ℕ)) → greatest_bound k None g ≡ o → option_and_then (λ b. least_bound k (Some (lesser_of least b)) groups) o ≡ Some v
          → ((b : List ℕ) → least_bound k (Some (lesser_of least b)) groups ≡ Some v → list_any (λ group. list_all (λ c. is_true_of bytes c) group) groups ≡ false)
          → (list_all (λ c. is_true_of bytes c) g || list_any (λ group. list_all (λ c. is_true_of bytes c) group) groups) ≡ false
      by_group None e h more = cc
      by_group (Some b) e h more =
          let low : is_less own b ≡ true = lesser_low least b (least_low (lesser_of least b) groups v h less) in
          ap (λ (t : Bool). t || list_any (λ group. list_all (λ c. is_true_of bytes c) group) groups) (group_false (group_fails None g b e low)) ∙ more b h
        where
          group_false : {b : List ℕ} → (None ≡ Some b) ⊎ (list_all (λ c. is_true_of bytes c) g ≡ false) → list_all (λ c. is_true_of bytes c) g ≡ false
          group_false (inl h) = cc
          group_false (inr h) = h

pub none_below : (k : Key) (a : Ssa) (v : List ℕ) → least_key k a ≡ Some v → NoneQualifiesBelow k a v
none_below k a v is r less = by_groups a.groups is
  where
    by_groups : (o : Option (List (List Comparison))) → option_and_then (λ groups. least_bound k None groups) o ≡ Some v
        → option_map_or (λ groups. list_any (λ group. list_all (λ c. is_true_of r.bytes c) group) groups) o true ≡ false
    by_groups None h = cc
    by_groups (Some groups) h = groups_fail k r.bytes None groups v h less

pub if_below : (k : Key) (a : Ssa) (o : Option (Bor (List ℕ))) → option_copied o ≡ least_key k a → IfSome o (λ v. NoneQualifiesBelow k a v.now)
if_below k a None is = tt
if_below k a (Some v) is = none_below k a v.now (sym is)

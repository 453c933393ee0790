-- Rows whose keys are past what is asked of them.
use Rattle.std.proofs.Common.{Bool, true, false, ◌≡◌, ℕ, List, [], ◌∷◌, ap, ap₂, sym, ◌∙◌, refl, subst, inl, inr, ◌⊎◌, Option, Some, None, Ordering}
use Rattle.std.specs.Prelude.{◌==◌, ◌||◌, ◌&&◌, not, cond, nat_lt}
use Rattle.std.specs.declared.cmp.Ordering.TheVariants as order
use Rattle.std.specs.Option.{option_map_or}
use Rattle.std.specs.List.{list_all, list_any}
use Rattle.std.specs.Ordering.{nat_cmp, is_gt, is_ge, is_le, is_lt, ordering_reverse}
use Rattle.std.specs.Cmp.Lexicographic.{slice_cmp}
use Rattle.std.proofs.lemmas.Cmp.{nat_list_cmp_total}
use Rattle.std.proofs.lemmas.Bool.{cond-true, eq-eqb, eqb-true, and_parts, and_from, or_cases, or_left, or_right}
use Rattle.hd_dbd.specs.declared.hierarchy.Key.{Key}
use Rattle.hd_dbd.specs.Types.{SegmentType}
use Rattle.hd_dbd.specs.Hierarchy.{type_of, part_of, key_in}
use Rattle.hd_dbd.specs.Segment.{Segment}
use Rattle.hd_dbd.specs.Rows.{twins_in_order}
use Rattle.hd_dbd.specs.Paths.{row_at, have_one_parent}
use Rattle.hd_calls.specs.declared.call.Operator.{Operator}
use Rattle.hd_calls.specs.declared.call.Operator.TheVariants.{Equal, AtLeast, AtMost, Greater, Less, NotEqual}
use Rattle.hd_calls.specs.Ssas.{Comparison, Ssa}
use Rattle.hd_calls.specs.Satisfies.{qualifies, is_true_of, accepts, is_last_so}
use Rattle.hd_calls.specs.Admits.{meets_own, admits}
use Rattle.hd_calls.specs.SearchKeys.{refuses_from, is_comparison_past, are_groups_past, is_key_past, is_ssa_past, is_past}
use Rattle.hd_calls.specs.SearchTwins.{PastKeysFail}
use Rattle.hd_calls.proofs.OnPaths.{sequence_is}
use Rattle.hd_calls.proofs.Failing.{and_no}
use Rattle.hd_calls.proofs.SearchTwins.{twins_fail}

-- ---- keys in order

greater_is : (o : Ordering) → is_gt o ≡ true → o ≡ order.Greater
greater_is order.Less h = cc
greater_is order.Equal h = cc
greater_is order.Greater h = refl

-- what is not below a key above a value is above the value
gt_up : (x y v : List ℕ) → is_gt (slice_cmp nat_cmp x v) ≡ true → is_le (slice_cmp nat_cmp x y) ≡ true → is_gt (slice_cmp nat_cmp y v) ≡ true
gt_up x y v g l = by_order (slice_cmp nat_cmp x y) refl l
  where
    by_order : (o : Ordering) → slice_cmp nat_cmp x y ≡ o → is_le o ≡ true → is_gt (slice_cmp nat_cmp y v) ≡ true
    by_order order.Less e le =
        (let below : slice_cmp nat_cmp v x ≡ order.Less = nat_list_cmp_total.antisymm v x ∙ ap ordering_reverse (greater_is _ g) in
        ap is_gt (nat_list_cmp_total.antisymm y v ∙ ap ordering_reverse (nat_list_cmp_total.trans v x y below e)))
    by_order order.Equal e le = ap is_gt (sym (nat_list_cmp_total.congr x y v e)) ∙ g
    by_order order.Greater e le = cc

ge_up : (x y v : List ℕ) → is_ge (slice_cmp nat_cmp x v) ≡ true → is_le (slice_cmp nat_cmp x y) ≡ true → is_ge (slice_cmp nat_cmp y v) ≡ true
ge_up x y v g l = by_order (slice_cmp nat_cmp x v) refl g
  where
    reversed : (o : Ordering) → is_le o ≡ true → is_ge (ordering_reverse o) ≡ true
    reversed order.Less h = refl
    reversed order.Equal h = refl
    reversed order.Greater h = cc

    or_equal : (o : Ordering) → is_gt o ≡ true → is_ge o ≡ true
    or_equal order.Less h = cc
    or_equal order.Equal h = cc
    or_equal order.Greater h = refl

    by_order : (o : Ordering) → slice_cmp nat_cmp x v ≡ o → is_ge o ≡ true → is_ge (slice_cmp nat_cmp y v) ≡ true
    by_order order.Less e ge = cc
    by_order order.Equal e ge =
        ap is_ge (nat_list_cmp_total.antisymm y v) ∙ reversed (slice_cmp nat_cmp v y) (ap is_le (sym (nat_list_cmp_total.congr x v y e)) ∙ l)
    by_order order.Greater e ge = or_equal (slice_cmp nat_cmp y v) (gt_up x y v (ap is_gt e) l)

refuses_up : (o : Operator) (x y v : List ℕ) → refuses_from o (slice_cmp nat_cmp x v) ≡ true → is_le (slice_cmp nat_cmp x y) ≡ true → refuses_from o (slice_cmp nat_cmp y v) ≡ true
refuses_up Equal x y v h l = gt_up x y v h l
refuses_up AtMost x y v h l = gt_up x y v h l
refuses_up Less x y v h l = ge_up x y v h l
refuses_up AtLeast x y v h l = cc
refuses_up Greater x y v h l = cc
refuses_up NotEqual x y v h l = cc

refused : (o : Operator) (r : Ordering) → refuses_from o r ≡ true → accepts o r ≡ false
refused Equal order.Less h = cc
refused Equal order.Equal h = cc
refused Equal order.Greater h = refl
refused AtMost order.Less h = cc
refused AtMost order.Equal h = cc
refused AtMost order.Greater h = refl
refused Less order.Less h = cc
refused Less order.Equal h = refl
refused Less order.Greater h = refl
refused AtLeast r h = cc
refused Greater r h = cc
refused NotEqual r h = cc

-- ---- groups

module _ (k : Key) (bytes more : List ℕ) (up : is_le (slice_cmp nat_cmp (part_of bytes k.start k.length) (part_of more k.start k.length)) ≡ true) where
  past_up : (c : Comparison) → is_comparison_past k bytes c ≡ true → is_comparison_past k more c ≡ true
  past_up c h =
      let P = and_parts _ _ h in
      let Q = and_parts _ _ P.0 in
      let st : c.field.start ≡ k.start = eqb-true c.field.start k.start Q.0 in
      let le : c.field.length ≡ k.length = eqb-true c.field.length k.length Q.1 in
      let ups : is_le (slice_cmp nat_cmp (part_of bytes c.field.start c.field.length) (part_of more c.field.start c.field.length)) ≡ true
      = ap₂ (λ a b. is_le (slice_cmp nat_cmp (part_of bytes a b) (part_of more a b))) st le ∙ up in
      and_from _ _ P.0 (refuses_up c.operator (part_of bytes c.field.start c.field.length) (part_of more c.field.start c.field.length) c.value P.1 ups)

  group_up : (group : List Comparison) → list_any (λ c. is_comparison_past k bytes c) group ≡ true → list_any (λ c. is_comparison_past k more c) group ≡ true
  group_up [] h = cc
  group_up (c ∷ group) h = elim (or_cases (is_comparison_past k bytes c) (list_any (λ c. is_comparison_past k bytes c) group) h) [
    | inl t ↦ or_left (is_comparison_past k more c) _ (past_up c t)
    | inr v ↦ or_right (is_comparison_past k more c) _ (group_up group v)
  ]

  groups_up : (groups : List (List Comparison)) → are_groups_past k bytes groups ≡ true → are_groups_past k more groups ≡ true
  groups_up [] h = refl
  groups_up (g ∷ groups) h = (let P = and_parts _ _ h in and_from _ _ (group_up g P.0) (groups_up groups P.1))

-- past groups are not had
group_false : (k : Key) (bytes : List ℕ) (group : List Comparison) → list_any (λ c. is_comparison_past k bytes c) group ≡ true → list_all (λ c. is_true_of bytes c) group ≡ false
group_false k bytes [] h = cc
group_false k bytes (c ∷ group) h = elim (or_cases (is_comparison_past k bytes c) (list_any (λ c. is_comparison_past k bytes c) group) h) [
  | inl t ↦ ap (λ (b : Bool). b && list_all (λ c. is_true_of bytes c) group) (refused c.operator _ (and_parts _ _ t).1)
  | inr v ↦ ap (λ (b : Bool). is_true_of bytes c && b) (group_false k bytes group v) ∙ and_no (is_true_of bytes c)
]

pub groups_false : (k : Key) (bytes : List ℕ) (groups : List (List Comparison)) → are_groups_past k bytes groups ≡ true → list_any (λ group. list_all (λ c. is_true_of bytes c) group) groups ≡ false
groups_false k bytes [] h = refl
groups_false k bytes (g ∷ groups) h =
    (let P = and_parts _ _ h in
    ap (λ (b : Bool). b || list_any (λ group. list_all (λ c. is_true_of bytes c) group) groups) (group_false k bytes g P.0) ∙ groups_false k bytes groups P.1)

-- ---- rows

-- the row itself, or a later twin
abbrev Later : List SegmentType → List Segment → ℕ → ℕ → Type 0
Later types rows i k = (k ≡ i) ⊎ (twins_in_order types (row_at rows i) (row_at rows k) ≡ true)

up_to : (k : Key) (x y : List ℕ) → cond k.unique (is_lt (slice_cmp nat_cmp x y)) (is_le (slice_cmp nat_cmp x y)) ≡ true → is_le (slice_cmp nat_cmp x y) ≡ true
up_to k x y h = by_unique k.unique h
  where
    or_equal : (o : Ordering) → is_lt o ≡ true → is_le o ≡ true
    or_equal order.Less e = refl
    or_equal order.Equal e = cc
    or_equal order.Greater e = cc

    by_unique : (u : Bool) → cond u (is_lt (slice_cmp nat_cmp x y)) (is_le (slice_cmp nat_cmp x y)) ≡ true → is_le (slice_cmp nat_cmp x y) ≡ true
    by_unique true e = or_equal _ e
    by_unique false e = e

-- twins by a key are in the key's order
key_up : (t : SegmentType) (key : Key) (p r : List ℕ) → t.key ≡ Some key
    → option_map_or (λ k. cond k.unique (is_lt (slice_cmp nat_cmp (key_in t p) (key_in t r))) (is_le (slice_cmp nat_cmp (key_in t p) (key_in t r)))) t.key true ≡ true
    → is_le (slice_cmp nat_cmp (part_of p key.start key.length) (part_of r key.start key.length)) ≡ true
key_up t key p r is h =
    up_to key (part_of p key.start key.length) (part_of r key.start key.length)
    (sym (ap (λ (o : Option Key). option_map_or (λ q. cond q.unique
    (is_lt (slice_cmp nat_cmp (option_map_or (λ z. part_of p z.start z.length) o []) (option_map_or (λ z. part_of r z.start z.length) o [])))
    (is_le (slice_cmp nat_cmp (option_map_or (λ z. part_of p z.start z.length) o []) (option_map_or (λ z. part_of r z.start z.length) o [])))) o true) is) ∙ h)

module _ (types : List SegmentType) (rows : List Segment) (i k : ℕ) (code : (row_at rows k).code ≡ (row_at rows i).code) (later : Later types rows i k) where
  -- its qualification is not had
  unqualified : (a : Ssa) → option_map_or (λ t. is_key_past t a (row_at rows i).bytes) (type_of types (row_at rows i).code) false ≡ true → qualifies a (row_at rows k) ≡ false
  unqualified a h = by_type (type_of types (row_at rows i).code) refl h
    where
      by_groups : (t : SegmentType) (key : Key) (o : Option (List (List Comparison))) → type_of types (row_at rows i).code ≡ Some t → t.key ≡ Some key
          → option_map_or (λ groups. are_groups_past key (row_at rows i).bytes groups) o false ≡ true
          → option_map_or (λ groups. list_any (λ group. list_all (λ c. is_true_of (row_at rows k).bytes c) group) groups) o true ≡ false
      by_groups t key None e u h = cc
      by_groups t key (Some groups) e u h = groups_false key (row_at rows k).bytes groups (elim later [
        | inl same ↦ subst (λ x. are_groups_past key (row_at rows x).bytes groups ≡ true) (sym same) h
        | inr twin ↦ groups_up key (row_at rows i).bytes (row_at rows k).bytes
            (key_up t key (row_at rows i).bytes (row_at rows k).bytes u
            (sym (ap (λ (o : Option SegmentType). option_map_or (λ t. option_map_or (λ q. cond q.unique (is_lt (slice_cmp nat_cmp (key_in t (row_at rows i).bytes) (key_in t (row_at rows k).bytes)))
            (is_le (slice_cmp nat_cmp (key_in t (row_at rows i).bytes) (key_in t (row_at rows k).bytes)))) t.key true) o false) (ap (type_of types) code ∙ e)) ∙ twin)) groups h
      ])

      by_key : (t : SegmentType) (o : Option Key) → type_of types (row_at rows i).code ≡ Some t → t.key ≡ o
          → option_map_or (λ key. option_map_or (λ groups. are_groups_past key (row_at rows i).bytes groups) a.groups false) o false ≡ true → qualifies a (row_at rows k) ≡ false
      by_key t None e u h = cc
      by_key t (Some key) e u h = by_groups t key a.groups e u h

      by_type : (o : Option SegmentType) → type_of types (row_at rows i).code ≡ o → option_map_or (λ t. is_key_past t a (row_at rows i).bytes) o false ≡ true → qualifies a (row_at rows k) ≡ false
      by_type None e h = cc
      by_type (Some t) e h = by_key t t.key e refl h

  not_met : (a : Ssa) → is_ssa_past types (row_at rows i) a ≡ true → meets_own types rows k a ≡ false
  not_met a h =
      let P = and_parts _ _ h in
      ap₂ (λ b c. not b || (c && (not a.commands.last || a.code == 1 || is_last_so types rows a k)))
      (eq-eqb a.code (row_at rows k).code (eqb-true a.code (row_at rows i).code P.0 ∙ sym code)) (unqualified a P.1)

  not_admitted : (ssas : List Ssa) → is_past types ssas (row_at rows i) ≡ true → admits types rows ssas k ≡ false
  not_admitted [] h = cc
  not_admitted (a ∷ ssas) h = elim (or_cases (is_ssa_past types (row_at rows i) a) (is_past types ssas (row_at rows i)) h) [
    | inl t ↦ ap (λ (b : Bool). b && admits types rows ssas k) (not_met a t)
    | inr v ↦ ap (λ (b : Bool). meets_own types rows k a && b) (not_admitted ssas v) ∙ and_no (meets_own types rows k a)
  ]

pub past_keys_fail : PastKeysFail
past_keys_fail types rows ssas i over within way past =
    twins_fail types rows ssas i over within way (not_admitted types rows i i refl (inl refl) ssas past)
    (λ k behind l twin.
    let P = and_parts ((row_at rows i).code == (row_at rows k).code) (have_one_parent types rows i k) twin in
    let c : (row_at rows i).code ≡ (row_at rows k).code = eqb-true (row_at rows i).code (row_at rows k).code P.0 in
    let ordered : twins_in_order types (row_at rows i) (row_at rows k) ≡ true
    = sym (cond-true ((row_at rows i).code == (row_at rows k).code) (twins_in_order types (row_at rows i) (row_at rows k)) (nat_lt (row_at rows i).code (row_at rows k).code) P.0)
    ∙ (sequence_is types rows over).siblings i k behind l P.1 in
    not_admitted types rows i k (sym c) (inr ordered) ssas past)

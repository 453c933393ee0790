-- The place of a new row keeps the order of its parent's rows: it stands behind a twin that may come before it, and before one
-- that may come behind it.
use Rattle.std.proofs.Common.{◌≡◌, ℕ, zero, suc, ◌+◌, ◌-◌, ◌<◌, ◌≤◌, List, [], length, true, false, Bool, cond, arith, ap, sym, ◌∙◌, Option, Some, None, refl, inl, inr, ◌⊎◌, Ordering, Less, Equal, Greater}
use Rattle.std.specs.Prelude.{◌==◌, ◌&&◌, ◌||◌, not, nat_lt, nat_le, unwrap_or}
use Rattle.std.specs.Option.{option_map_or}
use Rattle.std.specs.Ordering.{nat_cmp, is_eq, is_lt, is_gt, is_le, ordering_reverse}
use Rattle.std.specs.Cmp.Lexicographic.{slice_cmp}
use Rattle.std.proofs.lemmas.Cmp.{nat_list_cmp_total}
use Rattle.std.proofs.lemmas.Bool.{and_parts, and_from, or_cases, or_left, or_right, cases_eq, cond-true, cond-false, eqb-true, eq-eqb, ne_eqb, ltb-true, lt-ltb, leb-true, le-leb, lt-leb, le-ltb, cases_lt}
use Rattle.hd_dbd.specs.declared.hierarchy.Key.{Key}
use Rattle.hd_dbd.specs.declared.hierarchy.Rule.{Rule}
use Rattle.hd_dbd.specs.declared.hierarchy.Rule.TheVariants.{First, Last, Here}
use Rattle.hd_dbd.specs.Types.{SegmentType}
use Rattle.hd_dbd.specs.Segment.{Segment}
use Rattle.hd_dbd.specs.Hierarchy.{type_of, key_in, part_of}
use Rattle.hd_dbd.specs.Rows.{key_of, twins_in_order, siblings_in_order}
use Rattle.hd_dbd.specs.Paths.{row_at, parent_row, end_of}
use Rattle.hd_dbd.specs.Searches.{least_within, first_from}
use Rattle.hd_dbd.specs.Loads.{has_unique_key}
use Rattle.hd_dbd.specs.Laws.{IsInSequence}
use Rattle.hd_dbd.proofs.LevelLaw.{Leveled}
use Rattle.hd_dbd.proofs.Names.{option_eq-Decides}
use Rattle.hd_calls.specs.Satisfies.{is_child}
use Rattle.hd_calls.specs.Places.{is_equal_twin, equal_after, comes_after, insertion_point, end_below}
use Rattle.hd_calls.proofs.Spans.{place_behind}

-- ---- keys

abbrev order : List ℕ → List ℕ → Ordering
order a b = slice_cmp nat_cmp a b

gt_is : (o : Ordering) → is_gt o ≡ true → o ≡ Greater
gt_is Less h = cc
gt_is Equal h = cc
gt_is Greater h = refl

eq_is : (o : Ordering) → is_eq o ≡ true → o ≡ Equal
eq_is Less h = cc
eq_is Equal h = refl
eq_is Greater h = cc

-- a key that is not below one above a third is above the third
raised : (a b n : List ℕ) → is_le (order a b) ≡ true → order a n ≡ Greater → order b n ≡ Greater
raised a b n le above = by_order (order a b) refl le
  where
    by_order : (o : Ordering) → order a b ≡ o → is_le o ≡ true → order b n ≡ Greater
    by_order Less is h =
        let below : order n a ≡ Less = nat_list_cmp_total.antisymm n a ∙ ap ordering_reverse above in
        nat_list_cmp_total.antisymm b n ∙ ap ordering_reverse (nat_list_cmp_total.trans n a b below is)
    by_order Equal is h = sym (nat_list_cmp_total.congr a b n is) ∙ above
    by_order Greater is h = cc

level_or_raised : (a b n : List ℕ) → is_le (order a b) ≡ true → order a n ≡ Equal → (order b n ≡ Equal) ⊎ (order b n ≡ Greater)
level_or_raised a b n le same = by_order (order a b) refl le
  where
    by_order : (o : Ordering) → order a b ≡ o → is_le o ≡ true → (order b n ≡ Equal) ⊎ (order b n ≡ Greater)
    by_order Less is h = inr (nat_list_cmp_total.antisymm b n ∙ ap ordering_reverse (sym (nat_list_cmp_total.congr a n b same) ∙ is))
    by_order Equal is h = inl (sym (nat_list_cmp_total.congr a b n is) ∙ same)
    by_order Greater is h = cc

-- keys of rows of one type, as the type says
keys_up : (o : Option SegmentType) (p r : List ℕ)
    → option_map_or (λ t. option_map_or (λ k. cond k.unique (is_lt (order (key_in t p) (key_in t r))) (is_le (order (key_in t p) (key_in t r)))) t.key true) o false ≡ true
    → is_le (order (option_map_or (λ t. key_in t p) o []) (option_map_or (λ t. key_in t r) o [])) ≡ true
keys_up None p r h = cc
keys_up (Some t) p r h = by_key t.key refl h
  where
    by_unique : (u : Bool) (o : Ordering) → cond u (is_lt o) (is_le o) ≡ true → is_le o ≡ true
    by_unique true Less h = refl
    by_unique true Equal h = cc
    by_unique true Greater h = cc
    by_unique false o h = h

    by_key : (k : Option Key) → t.key ≡ k → option_map_or (λ k. cond k.unique (is_lt (order (key_in t p) (key_in t r))) (is_le (order (key_in t p) (key_in t r)))) k true ≡ true
        → is_le (order (key_in t p) (key_in t r)) ≡ true
    by_key (Some k) is h = by_unique k.unique (order (key_in t p) (key_in t r)) h
    by_key None is h =
        ap (λ (k : Option Key). is_le (order (option_map_or (λ k. part_of p k.start k.length) k []) (option_map_or (λ k. part_of r k.start k.length) k []))) is

-- and back, where an equal key is none of a unique one
keys_down : (o : Option SegmentType) (p r : List ℕ) (t : SegmentType) → o ≡ Some t
    → is_le (order (option_map_or (λ t. key_in t p) o []) (option_map_or (λ t. key_in t r) o [])) ≡ true
    → (option_map_or (λ t. option_map_or (λ k. k.unique) t.key false) o false ≡ true → is_eq (order (option_map_or (λ t. key_in t p) o []) (option_map_or (λ t. key_in t r) o [])) ≡ false)
    → option_map_or (λ t. option_map_or (λ k. cond k.unique (is_lt (order (key_in t p) (key_in t r))) (is_le (order (key_in t p) (key_in t r)))) t.key true) o false ≡ true
keys_down None p r t is le other = cc
keys_down (Some u) p r t is le other = by_key u.key other
  where
    strict : (o : Ordering) → is_le o ≡ true → is_eq o ≡ false → is_lt o ≡ true
    strict Less l e = refl
    strict Equal l e = cc
    strict Greater l e = cc

    by_unique : (b : Bool) → (b ≡ true → is_eq (order (key_in u p) (key_in u r)) ≡ false) → cond b (is_lt (order (key_in u p) (key_in u r))) (is_le (order (key_in u p) (key_in u r))) ≡ true
    by_unique true other = strict (order (key_in u p) (key_in u r)) le (other refl)
    by_unique false other = le

    by_key : (k : Option Key) → (option_map_or (λ k. k.unique) k false ≡ true → is_eq (order (key_in u p) (key_in u r)) ≡ false)
        → option_map_or (λ k. cond k.unique (is_lt (order (key_in u p) (key_in u r))) (is_le (order (key_in u p) (key_in u r)))) k true ≡ true
    by_key None other = refl
    by_key (Some k) other = by_unique k.unique other

twins_up : (types : List SegmentType) (p r : Segment) → p.code ≡ r.code → twins_in_order types p r ≡ true → is_le (order (key_of types p) (key_of types r)) ≡ true
twins_up types p r same twins =
    ap (λ (c : ℕ). is_le (order (option_map_or (λ t. key_in t p.bytes) (type_of types c) []) (key_of types r))) same
    ∙ keys_up (type_of types r.code) p.bytes r.bytes twins

pub twins_down : (types : List SegmentType) (p r : Segment) (t : SegmentType) → p.code ≡ r.code → type_of types r.code ≡ Some t → is_le (order (key_of types p) (key_of types r)) ≡ true
    → (has_unique_key types r.code ≡ true → is_eq (order (key_of types p) (key_of types r)) ≡ false) → twins_in_order types p r ≡ true
twins_down types p r t same typed le other =
    keys_down (type_of types r.code) p.bytes r.bytes t typed
    (ap (λ (c : ℕ). is_le (order (option_map_or (λ t. key_in t p.bytes) (type_of types c) []) (key_of types r))) (sym same) ∙ le)
    (λ u. ap (λ (c : ℕ). is_eq (order (option_map_or (λ t. key_in t p.bytes) (type_of types c) []) (key_of types r))) (sym same) ∙ other u)

siblings_cases : (types : List SegmentType) (p r : Segment) → siblings_in_order types p r ≡ true → ((p.code ≡ r.code) × (twins_in_order types p r ≡ true)) ⊎ (p.code < r.code)
siblings_cases types p r h = elim (cases_eq p.code r.code) [
  | inl same ↦ inl (same, sym (cond-true (p.code == r.code) (twins_in_order types p r) (nat_lt p.code r.code) (eq-eqb p.code r.code same)) ∙ h)
  | inr other ↦ inr (ltb-true p.code r.code (sym (cond-false (p.code == r.code) (twins_in_order types p r) (nat_lt p.code r.code) (ne_eqb p.code r.code other)) ∙ h))
]

-- ---- the rows of one parent

module _ (types : List SegmentType) (leveled : Leveled types) (rows : List Segment) (ordered : IsInSequence types rows) (parent standing : Option ℕ) (rule : Rule) (new : Segment) where
  child_of : (j : ℕ) → comes_after types rows parent standing rule new j ≡ true → parent_row types rows j ≡ parent
  child_of j after_ = (option_eq-Decides _ _).0 (and_parts _ _ after_).0

  abbrev behind_new : ℕ → Bool
  behind_new j = nat_lt new.code (row_at rows j).code
      || (row_at rows j).code == new.code
      && (is_gt (order (key_of types (row_at rows j)) (key_of types new)) || is_equal_twin types rows parent new j && equal_after types rows parent standing rule new j)

  equal_later : (rule : Rule) (j k : ℕ) → j < k → equal_after types rows parent standing rule new j ≡ true → equal_after types rows parent standing rule new k ≡ true
  equal_later First j k less h = refl
  equal_later Last j k less h = cc
  equal_later Here j k less h = by_place standing h
    where
      by_place : (o : Option ℕ) → option_map_or (λ i. not (is_equal_twin types rows parent new i) || nat_le i j) o true ≡ true
          → option_map_or (λ i. not (is_equal_twin types rows parent new i) || nat_le i k) o true ≡ true
      by_place None h = refl
      by_place (Some i) h = elim (or_cases (not (is_equal_twin types rows parent new i)) (nat_le i j) h) [
        | inl none ↦ or_left (not (is_equal_twin types rows parent new i)) (nat_le i k) none
        | inr at ↦ or_right (not (is_equal_twin types rows parent new i)) (nat_le i k) (le-leb i k (let low : i ≤ j = leb-true i j at in omega arith))
      ]

  -- what stands behind a row that must come after the new one must come after it too
  pub later_after : (j k : ℕ) → j < k → k < length rows → parent_row types rows k ≡ parent → comes_after types rows parent standing rule new j ≡ true
      → comes_after types rows parent standing rule new k ≡ true
  later_after j k less within of after_ =
      and_from (is_child types rows parent k) (behind_new k) ((option_eq-Decides _ _).1 of)
      (by_order (siblings_cases types (row_at rows j) (row_at rows k)
      (ordered.siblings j k less within ((option_eq-Decides _ _).1 (child_of j after_ ∙ sym of))))
      (or_cases (nat_lt new.code (row_at rows j).code) _ (and_parts _ _ after_).1))
    where
      greater : new.code < (row_at rows k).code → behind_new k ≡ true
      greater more = or_left (nat_lt new.code (row_at rows k).code) _ (lt-ltb new.code (row_at rows k).code more)

      twin : (row_at rows k).code ≡ new.code → (is_gt (order (key_of types (row_at rows k)) (key_of types new)) || is_equal_twin types rows parent new k && equal_after types rows parent standing rule new k) ≡ true
          → behind_new k ≡ true
      twin same h = or_right (nat_lt new.code (row_at rows k).code) _ (and_from ((row_at rows k).code == new.code) _ (eq-eqb (row_at rows k).code new.code same) h)

      equal_twin : (row_at rows k).code ≡ new.code → order (key_of types (row_at rows k)) (key_of types new) ≡ Equal → is_equal_twin types rows parent new k ≡ true
      equal_twin same key =
          and_from (is_child types rows parent k && (row_at rows k).code == new.code) _
          (and_from (is_child types rows parent k) _ ((option_eq-Decides _ _).1 of) (eq-eqb (row_at rows k).code new.code same)) (ap is_eq key)

      by_key : (row_at rows k).code ≡ new.code → is_le (order (key_of types (row_at rows j)) (key_of types (row_at rows k))) ≡ true
          → (is_gt (order (key_of types (row_at rows j)) (key_of types new)) ≡ true) ⊎ ((is_equal_twin types rows parent new j && equal_after types rows parent standing rule new j) ≡ true)
          → behind_new k ≡ true
      by_key same le (inl above) =
          twin same (or_left (is_gt (order (key_of types (row_at rows k)) (key_of types new))) _
          (ap is_gt (raised (key_of types (row_at rows j)) (key_of types (row_at rows k)) (key_of types new) le (gt_is _ above))))
      by_key same le (inr level_) =
          let both = and_parts _ _ level_ in
          elim (level_or_raised (key_of types (row_at rows j)) (key_of types (row_at rows k)) (key_of types new) le (eq_is _ (and_parts _ _ both.0).1)) [
            | inl equal ↦ twin same (or_right (is_gt (order (key_of types (row_at rows k)) (key_of types new))) _
                (and_from (is_equal_twin types rows parent new k) _ (equal_twin same equal) (equal_later rule j k less both.1)))
            | inr above ↦ twin same (or_left (is_gt (order (key_of types (row_at rows k)) (key_of types new))) _ (ap is_gt above))
          ]

      by_order : (((row_at rows j).code ≡ (row_at rows k).code) × (twins_in_order types (row_at rows j) (row_at rows k) ≡ true)) ⊎ ((row_at rows j).code < (row_at rows k).code)
          → (nat_lt new.code (row_at rows j).code ≡ true)
          ⊎ (((row_at rows j).code == new.code && (is_gt (order (key_of types (row_at rows j)) (key_of types new)) || is_equal_twin types rows parent new j && equal_after types rows parent standing rule new j)) ≡ true)
          → behind_new k ≡ true
      by_order (inr more) (inl h) = greater (omega (arith, ltb-true new.code (row_at rows j).code h))
      by_order (inr more) (inr h) = greater (omega (arith, eqb-true (row_at rows j).code new.code (and_parts _ _ h).0))
      by_order (inl same) (inl h) = greater (omega (arith, ltb-true new.code (row_at rows j).code h, same.0))
      by_order (inl same) (inr h) =
          let both = and_parts _ _ h in
          by_key (sym same.0 ∙ eqb-true (row_at rows j).code new.code both.0) (twins_up types (row_at rows j) (row_at rows k) same.0 same.1)
          (or_cases (is_gt (order (key_of types (row_at rows j)) (key_of types new))) _ both.1)

  -- The new row goes in behind the span of a twin that need not come after it, where each later row of the parent must.
  pub place_is : (y : ℕ) → y < length rows → parent_row types rows y ≡ parent → comes_after types rows parent standing rule new y ≡ false
      → ((k : ℕ) → y < k → k < length rows → parent_row types rows k ≡ parent → comes_after types rows parent standing rule new k ≡ true)
      → insertion_point types rows parent standing rule new ≡ end_of types rows y
  place_is y within of not_after last =
      place_behind types leveled rows ordered parent (λ j. comes_after types rows parent standing rule new j) y within of child_of not_after
      (λ j less after_. later_after j y less within of after_) last

  -- a twin that need not come after the new row may come before it
  pub twin_before : (y : ℕ) (t : SegmentType) → type_of types new.code ≡ Some t → parent_row types rows y ≡ parent → (row_at rows y).code ≡ new.code
      → (has_unique_key types new.code ≡ true → is_equal_twin types rows parent new y ≡ false)
      → comes_after types rows parent standing rule new y ≡ false → twins_in_order types (row_at rows y) new ≡ true
  twin_before y t typed of same untaken not_after =
      twins_down types (row_at rows y) new t same typed (by_order (order (key_of types (row_at rows y)) (key_of types new)) refl)
      (λ u. by_twin (is_eq (order (key_of types (row_at rows y)) (key_of types new))) refl (untaken u))
    where
      child : is_child types rows parent y ≡ true
      child = (option_eq-Decides _ _).1 of

      by_order : (o : Ordering) → order (key_of types (row_at rows y)) (key_of types new) ≡ o → is_le o ≡ true
      by_order Less is = refl
      by_order Equal is = refl
      by_order Greater is =
          (let wrong : comes_after types rows parent standing rule new y ≡ true =
          and_from (is_child types rows parent y) (behind_new y) child
          (or_right (nat_lt new.code (row_at rows y).code) _ (and_from ((row_at rows y).code == new.code) _ (eq-eqb (row_at rows y).code new.code same)
          (or_left (is_gt (order (key_of types (row_at rows y)) (key_of types new))) _ (ap is_gt is)))) in cc)

      by_twin : (b : Bool) → is_eq (order (key_of types (row_at rows y)) (key_of types new)) ≡ b → is_equal_twin types rows parent new y ≡ false → b ≡ false
      by_twin false is none = refl
      by_twin true is none =
          (let yes_ : is_equal_twin types rows parent new y ≡ true =
          and_from (is_child types rows parent y && (row_at rows y).code == new.code) _ (and_from (is_child types rows parent y) _ child (eq-eqb (row_at rows y).code new.code same)) is in cc)

-- ---- where no twin comes before

least_same : (f g : ℕ → Bool) (n i : ℕ) → ((j : ℕ) → i ≤ j → j < i + n → f j ≡ g j) → least_within f n i ≡ least_within g n i
least_same f g zero i same = refl
least_same f g (suc n) i same =
    ap (λ (b : Bool). cond b (Some i) (least_within f n (i + 1))) (same i (omega arith) (omega arith))
    ∙ ap (λ (o : Option ℕ). cond (g i) (Some i) o) (least_same f g n (i + 1) (λ j low high. same j (omega arith) (omega arith)))

-- Where each twin of a new row must come after it, it goes in before the first row of its parent of its type or a later one.
pub place_first : (types : List SegmentType) (rows : List Segment) (parent standing : Option ℕ) (rule : Rule) (new : Segment)
    → ((j : ℕ) → j < length rows → parent_row types rows j ≡ parent → (row_at rows j).code ≡ new.code → comes_after types rows parent standing rule new j ≡ true)
    → insertion_point types rows parent standing rule new
    ≡ unwrap_or (first_from (λ j. is_child types rows parent j && nat_le new.code (row_at rows j).code) 0 (length rows)) (end_below types rows parent)
place_first types rows parent standing rule new twins =
    ap (λ (o : Option ℕ). unwrap_or o (end_below types rows parent))
    (least_same (λ j. comes_after types rows parent standing rule new j) (λ j. is_child types rows parent j && nat_le new.code (row_at rows j).code) (length rows - 0) 0
    (λ j low high. by_child j (omega arith) (is_child types rows parent j) refl))
  where
    by_child : (j : ℕ) → j < length rows → (b : Bool) → is_child types rows parent j ≡ b → comes_after types rows parent standing rule new j ≡ (is_child types rows parent j && nat_le new.code (row_at rows j).code)
    by_child j within false is =
        ap (λ (b : Bool). b && (nat_lt new.code (row_at rows j).code || (row_at rows j).code == new.code
        && (is_gt (order (key_of types (row_at rows j)) (key_of types new)) || is_equal_twin types rows parent new j && equal_after types rows parent standing rule new j))) is
        ∙ sym (ap (λ (b : Bool). b && nat_le new.code (row_at rows j).code) is)
    by_child j within true is = elim (cases_eq (row_at rows j).code new.code) [
      | inl same ↦ (let le : nat_le new.code (row_at rows j).code ≡ true = le-leb new.code (row_at rows j).code (omega (arith, same)) in
          twins j within ((option_eq-Decides _ _).0 is) same ∙ sym (and_from (is_child types rows parent j) _ is le))
      | inr other ↦ elim (cases_lt new.code (row_at rows j).code) [
        | inl more ↦ (let le : nat_le new.code (row_at rows j).code ≡ true = le-leb new.code (row_at rows j).code (omega arith) in
            and_from (is_child types rows parent j) _ is (or_left (nat_lt new.code (row_at rows j).code) _ (lt-ltb new.code (row_at rows j).code more))
            ∙ sym (and_from (is_child types rows parent j) _ is le))
        | inr less ↦ (let below : (row_at rows j).code < new.code = lt_of (row_at rows j).code new.code less other in
            ap (λ (b : Bool). b && (nat_lt new.code (row_at rows j).code || (row_at rows j).code == new.code
            && (is_gt (order (key_of types (row_at rows j)) (key_of types new)) || is_equal_twin types rows parent new j && equal_after types rows parent standing rule new j))) is
            ∙ ap (λ (b : Bool). b || (row_at rows j).code == new.code
            && (is_gt (order (key_of types (row_at rows j)) (key_of types new)) || is_equal_twin types rows parent new j && equal_after types rows parent standing rule new j)) (le-ltb new.code (row_at rows j).code less)
            ∙ ap (λ (b : Bool). b
            && (is_gt (order (key_of types (row_at rows j)) (key_of types new)) || is_equal_twin types rows parent new j && equal_after types rows parent standing rule new j)) (ne_eqb (row_at rows j).code new.code other)
            ∙ sym (ap (λ (b : Bool). b && nat_le new.code (row_at rows j).code) is ∙ lt-leb new.code (row_at rows j).code below))
      ]
    ]
      where
        lt_of : (a b : ℕ) → a ≤ b → (a ≡ b → ⊥) → a < b
        lt_of a b le other = elim (cases_lt a b) [ inl less ↦ less | inr more ↦ absurd (other (omega arith)) ]

-- a twin that must come after the new row may come behind it
pub twin_behind : (types : List SegmentType) (rows : List Segment) (parent standing : Option ℕ) (rule : Rule) (new : Segment) (z : ℕ) (t : SegmentType) → type_of types new.code ≡ Some t
    → (row_at rows z).code ≡ new.code → (has_unique_key types new.code ≡ true → is_equal_twin types rows parent new z ≡ false)
    → comes_after types rows parent standing rule new z ≡ true → twins_in_order types new (row_at rows z) ≡ true
twin_behind types rows parent standing rule new z t typed same untaken after_ =
    twins_down types new (row_at rows z) t (sym same) (ap (λ (c : ℕ). type_of types c) same ∙ typed) up_to
    (λ u. ap is_eq turned ∙ eq_turned (order (key_of types (row_at rows z)) (key_of types new))
    ∙ by_twin (is_eq (order (key_of types (row_at rows z)) (key_of types new))) refl (untaken (ap (λ (c : ℕ). has_unique_key types c) (sym same) ∙ u)))
  where
    turned : order (key_of types new) (key_of types (row_at rows z)) ≡ ordering_reverse (order (key_of types (row_at rows z)) (key_of types new))
    turned = nat_list_cmp_total.antisymm (key_of types new) (key_of types (row_at rows z))

    eq_turned : (o : Ordering) → is_eq (ordering_reverse o) ≡ is_eq o
    eq_turned Less = refl
    eq_turned Equal = refl
    eq_turned Greater = refl

    by_twin : (b : Bool) → is_eq (order (key_of types (row_at rows z)) (key_of types new)) ≡ b → is_equal_twin types rows parent new z ≡ false → b ≡ false
    by_twin false is none = refl
    by_twin true is none =
        (let yes_ : is_equal_twin types rows parent new z ≡ true =
        and_from (is_child types rows parent z && (row_at rows z).code == new.code) _
        (and_from (is_child types rows parent z) _ (and_parts _ _ after_).0 (eq-eqb (row_at rows z).code new.code same)) is in cc)

    up_to : is_le (order (key_of types new) (key_of types (row_at rows z))) ≡ true
    up_to = elim (or_cases (nat_lt new.code (row_at rows z).code) _ (and_parts _ _ after_).1) [
      | inl more ↦ absurd (omega (arith, ltb-true new.code (row_at rows z).code more, same))
      | inr twin ↦ elim (or_cases (is_gt (order (key_of types (row_at rows z)) (key_of types new))) _ (and_parts _ _ twin).1) [
        | inl above ↦ ap is_le turned ∙ ap (λ (o : Ordering). is_le (ordering_reverse o)) (gt_is _ above)
        | inr equal ↦ ap is_le turned ∙ ap (λ (o : Ordering). is_le (ordering_reverse o)) (eq_is _ (and_parts _ _ (and_parts _ _ equal).0).1)
      ]
    ]

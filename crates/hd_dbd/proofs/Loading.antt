-- A row may be loaded behind valid rows just where they are valid with it.
use Rattle.std.proofs.Common.{◌≡◌, ℕ, zero, suc, ◌+◌, ◌-◌, ◌<◌, ◌≤◌, List, [], ◌∷◌, ◌++◌, length, take, Bool, true, false, cond, arith, ap, ap₂, sym, ◌∙◌, Option, Some, None, refl, inl, inr, Ordering, Less, Equal, Greater}
use Rattle.std.specs.Prelude.{slice_get, ◌==◌, ◌&&◌, ◌||◌, not, nat_lt, option_and_then}
use Rattle.std.specs.List.{list_any}
use Rattle.std.specs.Option.{option_map_or}
use Rattle.std.specs.Ordering.{nat_cmp, is_lt, is_le, is_eq, is_gt}
use Rattle.std.specs.Cmp.Lexicographic.{slice_cmp}
use Rattle.std.proofs.lemmas.Bool.{and_parts, and_from, eqb-true, eq-eqb, ne_eqb, lt-ltb, le-ltb, cases_order, cases_Bool, cond-true, cond-false, or_left, or_right}
use Rattle.std.proofs.lemmas.List.{length-append, length-take-le}
use Rattle.std.proofs.lemmas.Option.{slice_get_past}
use Rattle.hd_dbd.specs.declared.hierarchy.Key.{Key}
use Rattle.hd_dbd.specs.declared.answer.LoadFault.{LoadFault}
use Rattle.hd_dbd.specs.declared.answer.LoadFault.TheVariants.{LB, LC, LD, LE}
use Rattle.hd_dbd.specs.Types.{SegmentType}
use Rattle.hd_dbd.specs.Segment.{Segment}
use Rattle.hd_dbd.specs.Hierarchy.{type_of, parent_of, level_of, part_of, key_in}
use Rattle.hd_dbd.specs.Rows.{valid_from, may_follow, next_path, level, row_fits, is_below, twins_in_order, siblings_in_order}
use Rattle.hd_dbd.specs.Loads.{path_after, lacks_parent, order_fault, load_fault}
use Rattle.hd_dbd.proofs.LevelLaw.{Leveled, depth_below, typed}
use Rattle.hd_dbd.proofs.Forests.{low_after}
use Rattle.hd_dbd.proofs.Twins.{path_kept, path_ends}

-- ---- one row more

-- rows are valid with one row more where it may follow their path
pub valid_more : (types : List SegmentType) (path rows : List Segment) (new : Segment) → valid_from types path rows ≡ true
    → may_follow types (path_after types path rows) new ≡ true → valid_from types path (rows ++ new ∷ []) ≡ true
valid_more types path [] new valid follows = and_from _ _ follows refl
valid_more types path (r ∷ rows) new valid follows =
    (let parts = and_parts _ _ valid in and_from _ _ parts.0 (valid_more types (next_path types path r) rows new parts.1 follows))

-- and only there
pub valid_last : (types : List SegmentType) (path rows : List Segment) (new : Segment) → valid_from types path (rows ++ new ∷ []) ≡ true
    → may_follow types (path_after types path rows) new ≡ true
valid_last types path [] new valid = (and_parts _ _ valid).0
valid_last types path (r ∷ rows) new valid = valid_last types (next_path types path r) rows new (and_parts _ _ valid).1

-- ---- levels on a path

-- each row on a path has the level of its place
abbrev pub OnLevels : List SegmentType → List Segment → Type 0
OnLevels types path = (i : ℕ) (q : Segment) → slice_get path i ≡ Some q → level types q ≡ i + 1

-- a row that may follow keeps them
levels_kept : (types : List SegmentType) (path : List Segment) (r : Segment) → OnLevels types path → 0 < level types r → level types r ≤ length path + 1
    → OnLevels types (next_path types path r)
levels_kept types path r on some low i q is = elim (cases_order i (level types r - 1)) [
  | inl same ↦
      (let e : Some r ≡ Some q = sym (path_ends path (level types r - 1) r (omega arith)) ∙ ap (λ (n : ℕ). slice_get (next_path types path r) n) (sym same) ∙ is in
      by_same e same)
  | inr other ↦ elim other [
    | inl before ↦ on i q (sym (path_kept path (level types r - 1) i (r ∷ []) (omega arith) (omega arith)) ∙ is)
    | inr past ↦
        (let front : length (take (level types r - 1) path) ≡ level types r - 1 = length-take-le (level types r - 1) path (omega arith) in
        let none : slice_get (next_path types path r) i ≡ None =
        slice_get_past (next_path types path r) i (omega (arith, length-append (take (level types r - 1) path) (r ∷ []))) in
        absurd (nothing q (sym none ∙ is)))
  ]
]
  where
    by_same : Some r ≡ Some q → i ≡ level types r - 1 → level types q ≡ i + 1
    by_same e same = (let at : r ≡ q = cc in let own : level types r ≡ level types q = ap (λ (x : Segment). level types x) at in omega arith)

    nothing : (q : Segment) → None ≡ Some q → ⊥
    nothing q e = cc

-- the path of valid rows has them
pub levels_after : (types : List SegmentType) (leveled : Leveled types) (path rows : List Segment) → OnLevels types path → valid_from types path rows ≡ true → OnLevels types (path_after types path rows)
levels_after types leveled path [] on valid = on
levels_after types leveled path (r ∷ rows) on valid =
    let parts = and_parts _ _ valid in
    let fits = (and_parts _ _ (and_parts _ _ parts.0).0).0 in
    let law : level types r ≡ depth_below types (parent_of types r.code) + 1 = leveled.law r fits in
    levels_after types leveled (next_path types path r) rows (levels_kept types path r on (omega arith) (low_after types leveled path r parts.0)) parts.1

-- ---- the parent

-- a test that is true of a row of a list is true of the list
any_at : (test : Segment → Bool) (path : List Segment) (i : ℕ) (q : Segment) → slice_get path i ≡ Some q → test q ≡ true → list_any test path ≡ true
any_at test [] i q is holds = cc
any_at test (r ∷ path) zero q is holds = (let e : r ≡ q = cc in or_left (test r) (list_any test path) (ap test e ∙ holds))
any_at test (r ∷ path) (suc i) q is holds = or_right (test r) (list_any test path) (any_at test path i q is holds)

-- and what is true of a list is true of one of its rows
at_any : (test : Segment → Bool) (path : List Segment) → list_any test path ≡ true → (i : ℕ) × (q : Segment) × (slice_get path i ≡ Some q) × (test q ≡ true)
at_any test [] any = cc
at_any test (r ∷ path) any = elim (cases_Bool (test r)) [
  | inl holds ↦ (0, r, refl, holds)
  | inr fails ↦ (let rest = at_any test path (sym (ap (λ (b : Bool). b || list_any test path) fails) ∙ any) in (suc rest.0, rest.1, rest.2, rest.3))
]

-- the parent type is on the path just where the row just above the new one's level is of it
module _ (types : List SegmentType) (leveled : Leveled types) (path : List Segment) (new : Segment) (on : OnLevels types path) (fits : row_fits types new ≡ true) where
  below_parent : (parent : Option ℕ) → parent_of types new.code ≡ parent
      → (option_map_or (λ p. not (list_any (λ q. q.code == p) path)) parent false ≡ false → option_map_or (λ p. option_map_or (λ q. q.code == p) (slice_get path (level types new - 2)) false) parent true ≡ true)
      × (option_map_or (λ p. option_map_or (λ q. q.code == p) (slice_get path (level types new - 2)) false) parent true ≡ true → option_map_or (λ p. not (list_any (λ q. q.code == p) path)) parent false ≡ false)
  below_parent None is = (λ h. refl, λ h. refl)
  below_parent (Some p) is = (there, back (slice_get path (level types new - 2)) refl)
    where
      there : not (list_any (λ q. q.code == p) path) ≡ false → option_map_or (λ q. q.code == p) (slice_get path (level types new - 2)) false ≡ true
      there h =
          let any : list_any (λ q. q.code == p) path ≡ true = elim (cases_Bool (list_any (λ q. q.code == p) path)) [ inl yes_ ↦ yes_ | inr none ↦ absurd (opposite (sym (ap not none) ∙ h)) ] in
          let found = at_any (λ q. q.code == p) path any in
          let own : level types found.1 ≡ found.0 + 1 = on found.0 found.1 found.2 in
          let code : found.1.code ≡ p = eqb-true found.1.code p found.3 in
          let at : level types found.1 ≡ level_of types p = ap (λ (c : ℕ). level_of types c) code in
          let law : level types new ≡ level_of types p + 1 = leveled.law new fits ∙ ap (λ (o : Option ℕ). depth_below types o + 1) is in
          let place : level types new - 2 ≡ found.0 = omega arith in
          ap (λ (n : ℕ). option_map_or (λ q. q.code == p) (slice_get path n) false) place
          ∙ ap (λ (o : Option Segment). option_map_or (λ q. q.code == p) o false) found.2
          ∙ found.3
        where
          opposite : true ≡ false → ⊥
          opposite e = cc

      back : (o : Option Segment) → slice_get path (level types new - 2) ≡ o → option_map_or (λ q. q.code == p) (slice_get path (level types new - 2)) false ≡ true → not (list_any (λ q. q.code == p) path) ≡ false
      back None at h = absurd (lacking (sym (ap (λ (x : Option Segment). option_map_or (λ q. q.code == p) x false) at) ∙ h))
        where
          lacking : false ≡ true → ⊥
          lacking e = cc
      back (Some q) at h = ap not (any_at (λ q. q.code == p) path (level types new - 2) q at (sym (ap (λ (x : Option Segment). option_map_or (λ q. q.code == p) x false) at) ∙ h))

-- ---- the order

-- what an order of keys is refused for, if it is
abbrev key_fault : Option Key → Ordering → Option LoadFault
key_fault key o = cond (option_map_or (λ k. k.unique) key false && is_eq o) (Some LB) (cond (is_gt o) (Some LC) None)

-- the order of keys that twins may have
abbrev keys_fit : Option Key → Ordering → Bool
keys_fit key o = option_map_or (λ k. cond k.unique (is_lt o) (is_le o)) key true

-- keys are in order just where no fault is found
by_unique : (start count : ℕ) (unique : Bool) (o : Ordering)
    → (key_fault (Some (record { start = start; length = count; unique = unique })) o ≡ None → keys_fit (Some (record { start = start; length = count; unique = unique })) o ≡ true)
    × (keys_fit (Some (record { start = start; length = count; unique = unique })) o ≡ true → key_fault (Some (record { start = start; length = count; unique = unique })) o ≡ None)
by_unique start count true Less = (λ h. refl, λ h. refl)
by_unique start count true Equal = (λ h. cc, λ h. cc)
by_unique start count true Greater = (λ h. cc, λ h. cc)
by_unique start count false Less = (λ h. refl, λ h. refl)
by_unique start count false Equal = (λ h. refl, λ h. refl)
by_unique start count false Greater = (λ h. cc, λ h. cc)

-- the keys of two segments of a type
by_type : (t : SegmentType) (x y : List ℕ) (key : Option Key) → t.key ≡ key
    → (key_fault key (slice_cmp nat_cmp (key_in t x) (key_in t y)) ≡ None → keys_fit key (slice_cmp nat_cmp (key_in t x) (key_in t y)) ≡ true)
    × (keys_fit key (slice_cmp nat_cmp (key_in t x) (key_in t y)) ≡ true → key_fault key (slice_cmp nat_cmp (key_in t x) (key_in t y)) ≡ None)
by_type t x y (Some k) is = by_unique k.start k.length k.unique (slice_cmp nat_cmp (key_in t x) (key_in t y))
by_type t x y None is =
    (λ h. refl, λ h. ap (λ (key : Option Key). key_fault None (slice_cmp nat_cmp (option_map_or (λ k. part_of x k.start k.length) key []) (option_map_or (λ k. part_of y k.start k.length) key []))) is)

-- twins of one type
twins_fit : (types : List SegmentType) (before new : Segment) (t : SegmentType) → type_of types new.code ≡ Some t → before.code ≡ new.code
    → (order_fault types before new ≡ None → twins_in_order types before new ≡ true) × (twins_in_order types before new ≡ true → order_fault types before new ≡ None)
twins_fit types before new t typed same = (
  λ h. order ∙ both.0 (sym fault ∙ h),
  λ h. fault ∙ both.1 (sym order ∙ h),
)
  where
    both : (key_fault t.key (slice_cmp nat_cmp (key_in t before.bytes) (key_in t new.bytes)) ≡ None → keys_fit t.key (slice_cmp nat_cmp (key_in t before.bytes) (key_in t new.bytes)) ≡ true)
        × (keys_fit t.key (slice_cmp nat_cmp (key_in t before.bytes) (key_in t new.bytes)) ≡ true → key_fault t.key (slice_cmp nat_cmp (key_in t before.bytes) (key_in t new.bytes)) ≡ None)
    both = by_type t before.bytes new.bytes t.key refl

    typed_before : type_of types before.code ≡ Some t
    typed_before = ap (λ (c : ℕ). type_of types c) same ∙ typed

    order : twins_in_order types before new ≡ keys_fit t.key (slice_cmp nat_cmp (key_in t before.bytes) (key_in t new.bytes))
    order = ap (λ (o : Option SegmentType). option_map_or (λ u. option_map_or (λ k.
        cond k.unique (is_lt (slice_cmp nat_cmp (key_in u before.bytes) (key_in u new.bytes)))
        (is_le (slice_cmp nat_cmp (key_in u before.bytes) (key_in u new.bytes)))) u.key true) o false) typed

    later : nat_lt before.code new.code ≡ false
    later = le-ltb before.code new.code (omega arith)

    earlier : nat_lt new.code before.code ≡ false
    earlier = le-ltb new.code before.code (omega arith)

    fault : order_fault types before new ≡ key_fault t.key (slice_cmp nat_cmp (key_in t before.bytes) (key_in t new.bytes))
    fault =
        cond-false (nat_lt new.code before.code) _ _ earlier
        ∙ cond-false (nat_lt before.code new.code) _ _ later
        ∙ ap₂ (λ (o p : Option SegmentType). cond (option_map_or (λ u. option_map_or (λ k. k.unique) u.key false) o false && is_eq (slice_cmp nat_cmp (option_map_or (λ u. key_in u before.bytes) p []) (option_map_or (λ u. key_in u new.bytes) o []))) (Some LB)
        (cond (is_gt (slice_cmp nat_cmp (option_map_or (λ u. key_in u before.bytes) p []) (option_map_or (λ u. key_in u new.bytes) o []))) (Some LC) None)) typed typed_before

-- behind a row the new one is in order just where no fault is found
siblings_fit : (types : List SegmentType) (before new : Segment) (t : SegmentType) → type_of types new.code ≡ Some t
    → (order_fault types before new ≡ None → siblings_in_order types before new ≡ true) × (siblings_in_order types before new ≡ true → order_fault types before new ≡ None)
siblings_fit types before new t typed = elim (cases_order before.code new.code) [
  | inl same ↦
      (let e = cond-true (before.code == new.code) (twins_in_order types before new) (nat_lt before.code new.code) (eq-eqb before.code new.code same) in
      let both = twins_fit types before new t typed same in (λ h. e ∙ both.0 h, λ h. both.1 (sym e ∙ h)))
  | inr other ↦ elim other [
    | inl less ↦
        (let ne : before.code == new.code ≡ false = ne_eqb before.code new.code (λ e. omega arith) in (
          λ h. cond-false (before.code == new.code) _ _ ne ∙ lt-ltb before.code new.code less,
          λ h. cond-false (nat_lt new.code before.code) _ _ (le-ltb new.code before.code (omega arith)) ∙ cond-true (nat_lt before.code new.code) _ _ (lt-ltb before.code new.code less),
        ))
    | inr more ↦
        (let ne : before.code == new.code ≡ false = ne_eqb before.code new.code (λ e. omega arith) in (
          λ h. absurd (some-none (sym (cond-true (nat_lt new.code before.code) _ _ (lt-ltb new.code before.code more)) ∙ h)),
          λ h. absurd (false-true (sym (le-ltb before.code new.code (omega arith)) ∙ sym (cond-false (before.code == new.code) _ _ ne) ∙ h)),
        ))
  ]
]
  where
    some-none : Some LE ≡ None → ⊥
    some-none e = cc

    false-true : false ≡ true → ⊥
    false-true e = cc

-- ---- together

-- a row of its type's length may be loaded behind the path of valid rows just where it may follow it
pub may_load : (types : List SegmentType) (leveled : Leveled types) (path : List Segment) (new : Segment) → OnLevels types path → row_fits types new ≡ true
    → (load_fault types path new ≡ None → may_follow types path new ≡ true) × (may_follow types path new ≡ true → load_fault types path new ≡ None)
may_load types leveled path new on fits = (
  λ h. elim (cases_Bool (lacks_parent types path new)) [
    | inl lacking ↦ absurd (some-none (sym (cond-true (lacks_parent types path new) _ _ lacking) ∙ h))
    | inr has ↦ and_from _ _ (and_from _ _ fits (parent.0 has)) (to_order (slice_get path (level types new - 1)) (sym (cond-false (lacks_parent types path new) _ _ has) ∙ h))
  ],
  λ h. (let parts = and_parts _ _ h in let firsts = and_parts _ _ parts.0 in cond-false (lacks_parent types path new) _ _ (parent.1 firsts.1) ∙ to_fault (slice_get path (level types new - 1)) parts.1),
)
  where
    parent : (lacks_parent types path new ≡ false → is_below types path new ≡ true) × (is_below types path new ≡ true → lacks_parent types path new ≡ false)
    parent = below_parent types leveled path new on fits (parent_of types new.code) refl

    t : (u : SegmentType) × (type_of types new.code ≡ Some u)
    t = typed types new fits

    some-none : Some LD ≡ None → ⊥
    some-none e = cc

    to_order : (o : Option Segment) → option_and_then (λ before. order_fault types before new) o ≡ None → option_map_or (λ p. siblings_in_order types p new) o true ≡ true
    to_order None h = refl
    to_order (Some before) h = (siblings_fit types before new t.0 t.1).0 h

    to_fault : (o : Option Segment) → option_map_or (λ p. siblings_in_order types p new) o true ≡ true → option_and_then (λ before. order_fault types before new) o ≡ None
    to_fault None h = refl
    to_fault (Some before) h = (siblings_fit types before new t.0 t.1).1 h

-- no row stands on no path
nowhere_on : (types : List SegmentType) → OnLevels types []
nowhere_on types i q is = cc

-- a row may be loaded behind valid rows just where they are valid with it
pub loaded_valid : (types : List SegmentType) (leveled : Leveled types) (rows : List Segment) (new : Segment) → valid_from types [] rows ≡ true → row_fits types new ≡ true
    → (load_fault types (path_after types [] rows) new ≡ None → valid_from types [] (rows ++ new ∷ []) ≡ true)
    × (valid_from types [] (rows ++ new ∷ []) ≡ true → load_fault types (path_after types [] rows) new ≡ None)
loaded_valid types leveled rows new valid fits =
    (let both = may_load types leveled (path_after types [] rows) new (levels_after types leveled [] rows (nowhere_on types) valid) fits in
    (λ h. valid_more types [] rows new valid (both.0 h), λ h. both.1 (valid_last types [] rows new h)))

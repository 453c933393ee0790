-- To which row F lowers the start of a search.
use Rattle.std.proofs.Common.{◌≡◌, ℕ, suc, ◌+◌, ◌-◌, ◌<◌, ◌≤◌, List, length, Bool, true, false, Option, Some, None, refl, sym, ap, subst, ◌∙◌, arith, inl, inr}
use Rattle.std.specs.Prelude.{nat_le, nat_lt, cond, min, option_map, option_and_then, slice_get, IfSome}
use Rattle.std.specs.Option.{option_map_or}
use Rattle.std.proofs.lemmas.Bool.{cases_lt, cond-true, lt-ltb, le-ltb, le-leb, lt-leb, ltb-true, false≢true}
use Rattle.hd_dbd.specs.Types.{SegmentType}
use Rattle.hd_dbd.specs.Hierarchy.{level_of, parent_of}
use Rattle.hd_dbd.specs.Segment.{Segment}
use Rattle.hd_dbd.specs.Paths.{row_at, level_at, parent_row, path_of, end_of}
use Rattle.hd_dbd.specs.Positions.{Position}
use Rattle.hd_calls.specs.declared.call.GetKind.TheVariants.{Next}
use Rattle.hd_calls.specs.Ssas.{Ssa}
use Rattle.hd_calls.specs.Satisfies.{on_path_at}
use Rattle.hd_calls.specs.Gets.{first_child, first_occurrence, search_start}
use Rattle.hd_calls.proofs.Spans.{end_is}
use Rattle.hd_position.specs.Kept.{path_passed, row_on}
use Rattle.hd_calls.specs.Admits.{AreRowsOf, IsSearch}
use Rattle.hd_calls.specs.SearchStarts.{has_first, topmost_first}
use Rattle.hd_calls.proofs.OnPaths.{Spans, level_below, some_level}
use Rattle.hd_calls.proofs.SearchStarts.{IsFirstChild, first_child_is, only_topmost, first_children_by_path}
use Rattle.hd_get.specs.First.{first_passed, lowered_to, parent_level, is_level_from}
use Rattle.hd_get.proofs.KeptRows.{path_row_is, last_passed, standing_on, standing_at}

-- what cannot be there is not
pub none_if : (o : Option ℕ) → ((y : ℕ) → o ≡ Some y → ⊥) → o ≡ None
none_if None no_ = refl
none_if (Some y) no_ = absurd (no_ y refl)

-- The type's parent type has a row on the path where the PCB stands, at a level.
pub record IsParentOn (types : List SegmentType) (rows : List Segment) (q : Position) (code l : ℕ) : Type 0 where
  pub type : ℕ
  pub is : parent_of types code ≡ Some type
  pub row : ℕ
  pub on : on_path_at types rows type q.standing ≡ Some row
  pub level : level_of types type ≡ l

module _ (types : List SegmentType) (rows : List Segment) (q : Position) where
  pub parent_on : (code l : ℕ) → parent_level types rows q code ≡ Some l → IsParentOn types rows q code l
  parent_on code l e = by_type (parent_of types code) refl e
    where
      by_row : (p : ℕ) → parent_of types code ≡ Some p → (o : Option ℕ) → on_path_at types rows p q.standing ≡ o → option_map (λ r. level_of types p) o ≡ Some l → IsParentOn types rows q code l
      by_row p is None on e = cc
      by_row p is (Some r) on e = record { type = p; is = is; row = r; on = on; level = (let z : level_of types p ≡ l = cc in z) }

      by_type : (o : Option ℕ) → parent_of types code ≡ o → option_and_then (λ p. option_map (λ r. level_of types p) (on_path_at types rows p q.standing)) o ≡ Some l → IsParentOn types rows q code l
      by_type None is e = cc
      by_type (Some p) is e = by_row p is (on_path_at types rows p q.standing) refl e

  -- the first occurrence below a parent that is there
  pub occurrence_is : (a : Ssa) (p r : ℕ) → has_first a ≡ true → parent_of types a.code ≡ Some p → on_path_at types rows p q.standing ≡ Some r
      → first_occurrence types rows q.standing a ≡ first_child types rows a.code r
  occurrence_is a p r first is on =
      cond-true (has_first a) _ None first
      ∙ ap (λ o. option_map_or (λ p. option_map_or (λ q. first_child types rows a.code q) (on_path_at types rows p q.standing) None) o None) is
      ∙ ap (λ o. option_map_or (λ q. first_child types rows a.code q) o None) on

  -- without one there is none
  pub occurrence_none : (a : Ssa) → has_first a ≡ true → parent_level types rows q a.code ≡ None → first_occurrence types rows q.standing a ≡ None
  occurrence_none a first e = cond-true (has_first a) _ None first ∙ by_type (parent_of types a.code) e
    where
      by_row : (p : ℕ) (o : Option ℕ) → option_map (λ r. level_of types p) o ≡ None → option_map_or (λ q. first_child types rows a.code q) o None ≡ None
      by_row p None e = refl
      by_row p (Some r) e = cc

      by_type : (o : Option ℕ) → option_and_then (λ p. option_map (λ r. level_of types p) (on_path_at types rows p q.standing)) o ≡ None
          → option_map_or (λ p. option_map_or (λ q. first_child types rows a.code q) (on_path_at types rows p q.standing) None) o None ≡ None
      by_type None e = refl
      by_type (Some p) e = by_row p (on_path_at types rows p q.standing) e

  -- among the rows passed neither
  pub passed_none : (a : Ssa) → has_first a ≡ true → parent_level types rows q a.code ≡ None → first_passed types rows q a ≡ None
  passed_none a first e = ap (option_and_then (λ j. cond (nat_lt j q.passed) (Some j) None)) (occurrence_none a first e)

  -- An argument with F has a first occurrence: a child of a row on the path where the PCB stands.
  pub record Occurs (a : Ssa) (j : ℕ) : Type 0 where
    pub first : has_first a ≡ true
    pub level : ℕ
    pub parent : IsParentOn types rows q a.code level
    pub child : first_child types rows a.code parent.row ≡ Some j

  pub occurs : (a : Ssa) (j : ℕ) → first_occurrence types rows q.standing a ≡ Some j → Occurs a j
  occurs a j e = by_first (has_first a) refl e
    where
      by_row : has_first a ≡ true → (p : ℕ) → parent_of types a.code ≡ Some p → (o : Option ℕ) → on_path_at types rows p q.standing ≡ o
          → option_map_or (λ q. first_child types rows a.code q) o None ≡ Some j → Occurs a j
      by_row first p is None on e = cc
      by_row first p is (Some r) on e = record { first = first; level = level_of types p; parent = record { type = p; is = is; row = r; on = on; level = refl }; child = e }

      by_type : has_first a ≡ true → (o : Option ℕ) → parent_of types a.code ≡ o
          → option_map_or (λ p. option_map_or (λ q. first_child types rows a.code q) (on_path_at types rows p q.standing) None) o None ≡ Some j → Occurs a j
      by_type first None is e = cc
      by_type first (Some p) is e = by_row first p is (on_path_at types rows p q.standing) refl e

      by_first : (b : Bool) → has_first a ≡ b
          → cond b (option_map_or (λ p. option_map_or (λ q. first_child types rows a.code q) (on_path_at types rows p q.standing) None) (parent_of types a.code) None) None ≡ Some j
          → Occurs a j
      by_first false none e = cc
      by_first true first e = by_type first (parent_of types a.code) refl e

-- what is kept of a PCB: the level of the row on which it stands
module _ (types : List SegmentType) (rows : List Segment) (over : AreRowsOf types rows) (q : Position) (within : q.passed ≤ length rows)
    (standing : ℕ) (stands : q.standing ≡ row_on (path_passed types rows q.passed) standing) where
  -- The parent's row stands on the path of the last row passed, at its level, and spans that row.
  pub record IsKeptParent (code l : ℕ) (P : IsParentOn types rows q code l) : Type 0 where
    pub at : row_on (path_passed types rows q.passed) l ≡ Some P.row
    pub code_is : parent_of types code ≡ Some (row_at rows P.row).code
    pub last : ℕ
    pub passed : q.passed ≡ suc last
    pub spans : Spans types rows P.row last
    pub level_is : level_at types rows P.row ≡ l

  pub kept_parent : (code l : ℕ) (P : IsParentOn types rows q code l) → IsKeptParent code l P
  kept_parent code l P =
      let S = standing_on types rows over q.passed standing P.type P.row within (row_on (path_passed types rows q.passed) standing) refl
      (ap (on_path_at types rows P.type) (sym stands) ∙ P.on) in
      let at : row_on (path_passed types rows q.passed) l ≡ Some P.row = ap (row_on (path_passed types rows q.passed)) (sym P.level) ∙ S.1 in
      let M = last_passed types rows q.passed l P.row at in
      let few : q.passed ≡ suc M.0 = M.1 in
      let R = path_row_is types rows over M.0 l P.row (omega arith) (subst (λ n. row_on (path_passed types rows n) l ≡ Some P.row) M.1 at) in
      record { at = at; code_is = P.is ∙ ap (λ (c : ℕ). Some c) (sym S.2); last = M.0; passed = M.1; spans = R.spans; level_is = R.level }

  -- a type has no row there where its level is below that of the row on which the PCB stands
  pub none_deeper : (p : ℕ) → standing < level_of types p → on_path_at types rows p q.standing ≡ None
  none_deeper p deep = none_if (on_path_at types rows p q.standing) (λ y e.
      (let S = standing_on types rows over q.passed standing p y within (row_on (path_passed types rows q.passed) standing) refl (ap (on_path_at types rows p) (sym stands) ∙ e) in
      let high : level_of types p ≤ standing = S.0 in omega arith))

  -- nor where nothing stands at its level
  pub none_at : (p : ℕ) → row_on (path_passed types rows q.passed) (level_of types p) ≡ None → on_path_at types rows p q.standing ≡ None
  none_at p none = none_if (on_path_at types rows p q.standing) (λ y e.
      (let S = standing_on types rows over q.passed standing p y within (row_on (path_passed types rows q.passed) standing) refl (ap (on_path_at types rows p) (sym stands) ∙ e) in
      let wrong : None ≡ Some y = sym none ∙ S.1 in cc))

  -- nor where a row of another type stands there
  pub none_other : (p x : ℕ) → row_on (path_passed types rows q.passed) (level_of types p) ≡ Some x → ((row_at rows x).code ≡ p → ⊥) → on_path_at types rows p q.standing ≡ None
  none_other p x is other = none_if (on_path_at types rows p q.standing) (λ y e.
      (let S = standing_on types rows over q.passed standing p y within (row_on (path_passed types rows q.passed) standing) refl (ap (on_path_at types rows p) (sym stands) ∙ e) in
      let same : Some x ≡ Some y = sym is ∙ S.1 in
      let at : x ≡ y = cc in other (ap (λ z. (row_at rows z).code) at ∙ S.2)))

  -- a row of the type that stands there, not below the row on which the PCB stands, is found
  pub found_at : (p x : ℕ) → standing ≤ length (path_passed types rows q.passed) → level_of types p ≤ standing → row_on (path_passed types rows q.passed) (level_of types p) ≡ Some x
      → (row_at rows x).code ≡ p → on_path_at types rows p q.standing ≡ Some x
  found_at p x short high is code = ap (on_path_at types rows p) stands ∙ standing_at types rows over q.passed standing p x within short high is code

  -- its code is not 0
  pub parent_some : (code l : ℕ) (P : IsParentOn types rows q code l) → (row_at rows P.row).code ≡ 0 → ⊥
  parent_some code l P zero_ =
      let K = kept_parent code l P in
      let few : q.passed ≡ suc K.last = K.passed in
      let from : P.row ≤ K.last = K.spans.from in
      let some : 0 < level_at types rows P.row = some_level types rows over P.row (omega arith) in
      let none : level_at types rows P.row ≡ 0 = ap (level_of types) zero_ in omega arith

  -- the first child of the parent's row is passed just where the row below it on the path is of the type or of a later one
  child_passed : (code l j : ℕ) (P : IsParentOn types rows q code l) → first_child types rows code P.row ≡ Some j → nat_lt j q.passed ≡ is_level_from types rows q (l + 1) code
  child_passed code l j P e =
      let K = kept_parent code l P in
      let few : q.passed ≡ suc K.last = K.passed in
      let own : level_at types rows P.row ≡ l = K.level_is in
      let next : l + 1 ≡ suc l = omega arith in
      let below : level_at types rows P.row + 1 - 1 ≡ l = omega arith in
      ap (nat_lt j) K.passed ∙ less j K.last
      ∙ first_children_by_path types rows P.row K.last code j over K.spans.from K.spans.to (omega arith) e
      ∙ ap (λ n. option_map_or (λ x. nat_le code (row_at rows x).code) (slice_get (path_of types rows K.last) n) false) below
      ∙ sym (ap (λ n. option_map_or (λ x. nat_le code (row_at rows x).code) (row_on (path_of types rows K.last) n) false) next)
      ∙ sym (ap (λ n. option_map_or (λ x. nat_le code (row_at rows x).code) (row_on (path_passed types rows n) (l + 1)) false) K.passed)
    where
      less : (j m : ℕ) → nat_lt j (suc m) ≡ nat_le j m
      less j m = elim (cases_lt m j) [
        | inl past ↦ le-ltb j (suc m) (omega arith) ∙ sym (lt-leb j m past)
        | inr low ↦ lt-ltb j (suc m) (omega arith) ∙ sym (le-leb j m low)
      ]

  -- the first occurrence among the rows passed
  pub passed_is : (a : Ssa) (l : ℕ) (P : IsParentOn types rows q a.code l) → has_first a ≡ true
      → first_passed types rows q a ≡ cond (is_level_from types rows q (l + 1) a.code) (first_child types rows a.code P.row) None
  passed_is a l P first =
      ap (option_and_then (λ j. cond (nat_lt j q.passed) (Some j) None)) (occurrence_is types rows q a P.type P.row first P.is P.on)
      ∙ by (first_child types rows a.code P.row) refl
    where
      same : (b : Bool) (o : Option ℕ) → o ≡ cond b o o
      same true o = refl
      same false o = refl

      by : (o : Option ℕ) → first_child types rows a.code P.row ≡ o
          → option_and_then (λ j. cond (nat_lt j q.passed) (Some j) None) o ≡ cond (is_level_from types rows q (l + 1) a.code) o None
      by None e = same (is_level_from types rows q (l + 1) a.code) None
      by (Some j) e = ap (λ b. cond b (Some j) None) (child_passed a.code l j P e)

  -- ---- the start

  -- The start of a search is lowered to row j: a passed child of a row on the path of the last row passed.
  pub record IsLowered (j : ℕ) : Type 0 where
    pub last : ℕ
    pub passed : q.passed ≡ suc last
    pub low : j ≤ last
    pub parent : ℕ
    pub child : parent_row types rows j ≡ Some parent
    pub before : parent < j
    pub spans : Spans types rows parent last
    pub level_is : level_at types rows j ≡ level_at types rows parent + 1

  lowered_by : (a : Ssa) (j : ℕ) → first_passed types rows q a ≡ Some j → (first_occurrence types rows q.standing a ≡ Some j) × (j < q.passed)
  lowered_by a j e = by (first_occurrence types rows q.standing a) e
    where
      by_less : (i : ℕ) (b : Bool) → nat_lt i q.passed ≡ b → cond b (Some i) None ≡ Some j → (Some i ≡ Some j) × (j < q.passed)
      by_less i false less e = cc
      by_less i true less e = (e, (let same : i ≡ j = cc in subst (λ x. x < q.passed) same (ltb-true i q.passed less)))

      by : (o : Option ℕ) → option_and_then (λ j. cond (nat_lt j q.passed) (Some j) None) o ≡ Some j → (o ≡ Some j) × (j < q.passed)
      by None e = cc
      by (Some i) e = by_less i (nat_lt i q.passed) refl e

  pub lowered_is : (ssas : List Ssa) (j : ℕ) → lowered_to types rows q ssas ≡ Some j → IsLowered j
  lowered_is ssas j e = by (topmost_first ssas) e
    where
      by : (o : Option Ssa) → option_and_then (λ a. first_passed types rows q a) o ≡ Some j → IsLowered j
      by None e = cc
      by (Some a) e =
          let L = lowered_by a j e in
          let O = occurs types rows q a j L.0 in
          let K = kept_parent a.code O.level O.parent in
          let C : IsFirstChild types rows a.code O.parent.row j = first_child_is types rows a.code O.parent.row j O.child in
          let few : q.passed ≡ suc K.last = K.passed in
          let less : j < q.passed = L.1 in
          record {
            last = K.last;
            passed = K.passed;
            low = omega arith;
            parent = O.parent.row;
            child = C.parent_is;
            before = C.behind;
            spans = K.spans;
            level_is = level_below types rows over j O.parent.row (omega arith) C.parent_is;
          }

  -- the start of GN by what lowers it
  pub start_is : (ssas : List Ssa) → IsSearch types rows ssas → IfSome q.standing (λ i. i < length rows)
      → search_start types rows q Next ssas ≡ option_map_or (λ j. j) (lowered_to types rows q ssas) q.passed
  start_is ssas search_ there = only_topmost types rows q.standing ssas q.passed search_ there ∙ by (topmost_first ssas)
    where
      by_less : (j : ℕ) (b : Bool) → nat_lt j q.passed ≡ b → min q.passed j ≡ option_map_or (λ j. j) (cond b (Some j) None) q.passed
      by_less j true less = (let w : j < q.passed = ltb-true j q.passed less in omega arith)
      by_less j false less = (let w : q.passed ≤ j = elim (cases_lt j q.passed) [ inl v ↦ absurd (false≢true (sym less ∙ lt-ltb j q.passed v)) | inr v ↦ v ] in omega arith)

      by_found : (o : Option ℕ) → option_map_or (λ j. min q.passed j) o q.passed ≡ option_map_or (λ j. j) (option_and_then (λ j. cond (nat_lt j q.passed) (Some j) None) o) q.passed
      by_found None = refl
      by_found (Some j) = by_less j (nat_lt j q.passed) refl

      by : (o : Option Ssa) → option_map_or (λ j. min q.passed j) (option_and_then (λ a. first_occurrence types rows q.standing a) o) q.passed
          ≡ option_map_or (λ j. j) (option_and_then (λ a. first_passed types rows q a) o) q.passed
      by None = refl
      by (Some a) = by_found (first_occurrence types rows q.standing a)

  -- a row that spans the last row passed, on a level above the row to which the start is lowered, stands before that
  pub parent_before : (j p : ℕ) (L : IsLowered j) → Spans types rows p L.last → level_at types rows p < level_at types rows j → p < j
  parent_before j p L spans high = elim (cases_lt L.parent p) [
    | inr low ↦ (let b : L.parent < j = L.before in omega arith)
    | inl less ↦ absurd (
        let few : q.passed ≡ suc L.last = L.passed in
        let s : p ≤ L.last = spans.from in
        let E = end_is types rows L.parent (omega arith) in
        let to : L.last < end_of types rows L.parent = L.spans.to in
        let deep : level_at types rows L.parent < level_at types rows p = E.deeper p (omega arith) (omega arith) in
        let own : level_at types rows j ≡ level_at types rows L.parent + 1 = L.level_is in omega arith)
  ]

  -- else it does not stand before it
  pub parent_behind : (j p : ℕ) (L : IsLowered j) → Spans types rows p L.last → level_at types rows j ≤ level_at types rows p → j ≤ p
  parent_behind j p L spans low = elim (cases_lt p j) [
    | inr fine ↦ fine
    | inl less ↦ absurd (
        let few : q.passed ≡ suc L.last = L.passed in
        let s : p ≤ L.last = spans.from in
        let E = end_is types rows p (omega arith) in
        let to : L.last < end_of types rows p = spans.to in
        let most : j ≤ L.last = L.low in
        let deep : level_at types rows p < level_at types rows j = E.deeper j (omega arith) (omega arith) in omega arith)
  ]

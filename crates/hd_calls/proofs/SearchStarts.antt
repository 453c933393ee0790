-- Where a search begins under F.
use Rattle.std.proofs.Common.{Bool, true, false, ◌≡◌, ℕ, zero, suc, ◌+◌, ◌-◌, ◌<◌, ◌≤◌, List, [], ◌∷◌, length, arith, ap, sym, ◌∙◌, refl, subst, inl, inr, Option, Some, None}
use Rattle.std.specs.Prelude.{◌==◌, ◌&&◌, not, nat_le, nat_lt, min, max, cond, option_and_then, IfSome}
use Rattle.std.specs.Option.{option_map_or}
use Rattle.std.specs.List.{AllByRecursion}
use Rattle.std.proofs.Math.Nat.{max-min_distrib_left, max_comm}
use Rattle.std.proofs.lemmas.Bool.{cases_lt, cases_eq, cases_Bool, cond-true, cond-false, eq-eqb, eqb-true, and_parts, and_from, or_right, le-leb, lt-leb, ne_eqb, ltb-true, false≢true}
use Rattle.std.proofs.lemmas.Option.{slice_get_past}
use Rattle.hd_dbd.specs.Types.{SegmentType}
use Rattle.hd_dbd.specs.Hierarchy.{parent_of, is_under}
use Rattle.hd_dbd.specs.Segment.{Segment}
use Rattle.hd_dbd.specs.Rows.{twins_in_order}
use Rattle.hd_dbd.specs.Paths.{row_at, level_at, parent_row, path_of, end_of}
use Rattle.hd_dbd.proofs.Names.{option_eq-Decides}
use Rattle.hd_calls.specs.Ssas.{Ssa}
use Rattle.hd_calls.specs.Satisfies.{on_path, on_path_at, is_child}
use Rattle.hd_calls.specs.Gets.{first_child, first_occurrence, lowered_start, behind_parent}
use Rattle.hd_calls.proofs.Searches.{least_some, least_no}
use Rattle.hd_calls.proofs.Spans.{end_is, nearest_is}
use Rattle.hd_calls.specs.Admits.{is_on_way, Descend, AreRowsOf}
use Rattle.hd_calls.specs.SearchLevels.{path_row}
use Rattle.hd_calls.specs.SearchStarts.{has_first, topmost_first, OnlyTheTopmostLowers, FirstChildrenAreByPath, ParentsComeFirst}
use Rattle.hd_calls.proofs.OnPaths.{Spans, IsOnPath, IsStep, levels_are, sequence_is, spans_self, spans_trans, spans_parent, spans_step, spanned_within, on_path_is, on_path_of, way_spans, level_below, parent_code, root_code}
use Rattle.hd_calls.proofs.SearchWays.{way_up, way_through}
use Rattle.hd_calls.proofs.SearchLevels.{path_length, path_at}

-- ---- the first child of a type

-- the first child of a type is a child of it, and no child before it is
pub record IsFirstChild (types : List SegmentType) (rows : List Segment) (code q j : ℕ) : Type 0 where
  pub behind : q < j
  pub inside : j < end_of types rows q
  pub code_is : (row_at rows j).code ≡ code
  pub parent_is : parent_row types rows j ≡ Some q
  pub least : (k : ℕ) → q < k → (row_at rows k).code ≡ code → parent_row types rows k ≡ Some q → j ≤ k

pub first_child_is : (types : List SegmentType) (rows : List Segment) (code q j : ℕ) → first_child types rows code q ≡ Some j → IsFirstChild types rows code q j
first_child_is types rows code q j is =
    let L = least_some (λ k. (row_at rows k).code == code && is_child types rows (Some q) k) (end_of types rows q - (q + 1)) (q + 1) j is in
    let P = and_parts ((row_at rows j).code == code) (is_child types rows (Some q) j) L.2 in
    record {
      behind = omega (arith, L.0);
      inside = omega (arith, L.0, L.1);
      code_is = eqb-true (row_at rows j).code code P.0;
      parent_is = (option_eq-Decides (parent_row types rows j) (Some q)).0 P.1;
      least = λ k low code_ parent_. elim (cases_lt k j) [
        | inl less ↦ absurd (false≢true (sym (L.3 k (omega arith) less)
            ∙ and_from _ _ (eq-eqb (row_at rows k).code code code_) ((option_eq-Decides (parent_row types rows k) (Some q)).1 parent_)))
        | inr more ↦ more
      ];
    }

-- where there is a child of the type there is a first one, which is not behind it
first_child_of : (types : List SegmentType) (rows : List Segment) (q x : ℕ) → q < x → x < end_of types rows q → parent_row types rows x ≡ Some q
    → (j : ℕ) × (first_child types rows (row_at rows x).code q ≡ Some j) × (j ≤ x)
first_child_of types rows q x low high parent_ = by_found (first_child types rows (row_at rows x).code q) refl
  where
    by_found : (o : Option ℕ) → first_child types rows (row_at rows x).code q ≡ o → (j : ℕ) × (o ≡ Some j) × (j ≤ x)
    by_found None e =
        absurd (false≢true (sym (least_no (λ k. (row_at rows k).code == (row_at rows x).code && is_child types rows (Some q) k) (end_of types rows q - (q + 1)) (q + 1) e x (omega arith) (omega arith))
        ∙ and_from _ _ (eq-eqb (row_at rows x).code (row_at rows x).code refl) ((option_eq-Decides (parent_row types rows x) (Some q)).1 parent_)))
    by_found (Some j) e = (let F = first_child_is types rows (row_at rows x).code q j e in (j, refl, F.least x low refl parent_))

-- ---- the topmost SSA with F

-- each of these SSAs is of a type below one
abbrev AreUnder : List SegmentType → ℕ → List Ssa → Type 0
AreUnder types c ssas = AllByRecursion (λ b. is_under types b.code c ≡ true) ssas

module _ (types : List SegmentType) (rows : List Segment) (over : AreRowsOf types rows) where
  all_under : (c d : ℕ) → is_under types d c ≡ true → (ssas : List Ssa) → AreUnder types d ssas → AreUnder types c ssas
  all_under c d u [] a = tt
  all_under c d u (b ∷ ssas) a = (way_through types (levels_are types rows over) b.code d c (or_right (b.code == d) _ a.0) u, all_under c d u ssas a.1)

  under_all : (c : ℕ) (ssas : List Ssa) → Descend types (Some c) ssas → AreUnder types c ssas
  under_all c [] d = tt
  under_all c (b ∷ ssas) d = (d.0, all_under c b.code d.0 ssas (under_all b.code ssas d.1))

  -- the SSA's parent type has a row on the path of the standing row, and the first child of the SSA's type below it is j
  pub record Occurs (standing : Option ℕ) (a : Ssa) (j : ℕ) : Type 0 where
    pub row : ℕ
    pub row_is : standing ≡ Some row
    pub above : ℕ
    pub above_is_ : parent_of types a.code ≡ Some above
    pub parent : ℕ
    pub on : on_path types rows above row ≡ Some parent
    pub child : first_child types rows a.code parent ≡ Some j

  occurs : (standing : Option ℕ) (a : Ssa) (j : ℕ) → first_occurrence types rows standing a ≡ Some j → Occurs standing a j
  occurs standing a j is = by_first (has_first a) is
    where
      by_on : (i p : ℕ) (o : Option ℕ) → standing ≡ Some i → parent_of types a.code ≡ Some p → on_path types rows p i ≡ o
          → option_map_or (λ q. first_child types rows a.code q) o None ≡ Some j → Occurs standing a j
      by_on i p None e u v h = cc
      by_on i p (Some q) e u v h = record { row = i; row_is = e; above = p; above_is_ = u; parent = q; on = v; child = h }

      by_standing : (p : ℕ) (o : Option ℕ) → standing ≡ o → parent_of types a.code ≡ Some p
          → option_map_or (λ q. first_child types rows a.code q) (on_path_at types rows p o) None ≡ Some j → Occurs standing a j
      by_standing p None e u h = cc
      by_standing p (Some i) e u h = by_on i p (on_path types rows p i) e u refl h

      by_parent : (o : Option ℕ) → parent_of types a.code ≡ o
          → option_map_or (λ p. option_map_or (λ q. first_child types rows a.code q) (on_path_at types rows p standing) None) o None ≡ Some j → Occurs standing a j
      by_parent None u h = cc
      by_parent (Some p) u h = by_standing p standing refl u h

      by_first : (b : Bool)
          → cond b (option_map_or (λ p. option_map_or (λ q. first_child types rows a.code q) (on_path_at types rows p standing) None) (parent_of types a.code) None) None ≡ Some j
          → Occurs standing a j
      by_first true h = by_parent (parent_of types a.code) refl h
      by_first false h = cc

  occurrence_of : (a : Ssa) (i p q : ℕ) → has_first a ≡ true → parent_of types a.code ≡ Some p → on_path types rows p i ≡ Some q
      → first_occurrence types rows (Some i) a ≡ first_child types rows a.code q
  occurrence_of a i p q first is on =
      cond-true (has_first a) _ None first
      ∙ ap (λ o. option_map_or (λ p. option_map_or (λ q. first_child types rows a.code q) (on_path_at types rows p (Some i)) None) o None) is
      ∙ ap (λ o. option_map_or (λ q. first_child types rows a.code q) o None) on

  -- where an SSA has a first occurrence, one with F of a type above it has an earlier one
  earlier_above : (standing : Option ℕ) (a b : Ssa) (l : ℕ) → IfSome standing (λ i. i < length rows) → has_first a ≡ true → is_under types b.code a.code ≡ true
      → first_occurrence types rows standing b ≡ Some l → (j : ℕ) × (first_occurrence types rows standing a ≡ Some j) × (j ≤ l)
  earlier_above standing a b l within first under is =
      let O = occurs standing b l is in
      let iw : O.row < length rows = subst (λ o. IfSome o (λ i. i < length rows)) O.row_is within in
      let Q : IsOnPath types rows O.above O.row O.parent = on_path_is types rows O.above O.row O.parent iw O.on in
      let qw : O.parent < length rows = omega (arith, Q.spans.from) in
      let way : is_on_way types (row_at rows O.parent).code a.code ≡ true = subst (λ c. is_on_way types c a.code ≡ true) (sym Q.code) (above_way O.above O.above_is_) in
      let X = way_spans types rows over O.parent a.code qw way in
      let xw : X.0 < length rows = omega (arith, X.1.spans.from) in
      let F : IsFirstChild types rows b.code O.parent l = first_child_is types rows b.code O.parent l O.child in
      let T = by_parent O.row X.0 xw X.1.code (spans_trans types rows X.0 O.parent O.row iw X.1.spans Q.spans) iw (parent_row types rows X.0) refl in
      (T.0, ap (λ o. first_occurrence types rows o a) O.row_is ∙ T.1, (let most : T.0 ≤ X.0 = T.2 in omega (arith, F.behind, X.1.spans.from)))
    where
      -- the parent's type of the lower SSA is the upper one's, or below it
      above_way : (p : ℕ) → parent_of types b.code ≡ Some p → is_on_way types p a.code ≡ true
      above_way p e = way_up types (levels_are types rows over) b.code p a.code e under

      by_parent : (i x : ℕ) → x < length rows → (row_at rows x).code ≡ a.code → Spans types rows x i → i < length rows → (o : Option ℕ) → parent_row types rows x ≡ o
          → (j : ℕ) × (first_occurrence types rows (Some i) a ≡ Some j) × (j ≤ x)
      by_parent i x xw code s iw None e =
          absurd (false≢true (sym (no_root a.code (sym code ∙ root_code types rows over x xw e)) ∙ (and_parts a.commands.first (not (a.code == 1)) first).1))
        where
          no_root : (c : ℕ) → c ≡ 1 → not (c == 1) ≡ false
          no_root c same = ap (λ (b : Bool). not b) (eq-eqb c 1 same)
      by_parent i x xw code s iw (Some q) e =
          let up : Spans types rows q x = spans_parent types rows q x xw e in
          let own : parent_of types a.code ≡ Some (row_at rows q).code = ap (parent_of types) (sym code) ∙ parent_code types rows over x q xw e in
          let on : on_path types rows (row_at rows q).code i ≡ Some q = on_path_of types rows (row_at rows q).code i q iw (spans_trans types rows q x i iw up s) refl in
          let low : q < x = parent_before x q e in
          let C = first_child_of types rows q x low up.to e in
          (C.0, occurrence_of a i (row_at rows q).code q first own on ∙ ap (λ c. first_child types rows c q) (sym code) ∙ C.1, C.2)
        where
          parent_before : (x q : ℕ) → parent_row types rows x ≡ Some q → q < x
          parent_before x q e = (nearest_is types rows (level_at types rows x) x q e).0

  -- ---- the start

  lower : Option ℕ → ℕ → Ssa → ℕ
  lower standing begin a = option_map_or (λ j. min begin j) (first_occurrence types rows standing a) begin

  -- below an SSA with F none lowers a start that it has lowered, or any where it has no first occurrence
  stays : (standing : Option ℕ) (a : Ssa) (begin : ℕ) → IfSome standing (λ i. i < length rows) → has_first a ≡ true
      → (ssas : List Ssa) → AreUnder types a.code ssas
      → (o : Option ℕ) → first_occurrence types rows standing a ≡ o
      → lowered_start types rows standing ssas (option_map_or (λ j. min begin j) o begin) ≡ option_map_or (λ j. min begin j) o begin
  stays standing a begin within first [] under o is = refl
  stays standing a begin within first (b ∷ ssas) under o is =
      ap (λ n. lowered_start types rows standing ssas n) (by_occurrence o is (first_occurrence types rows standing b) refl)
      ∙ stays standing a begin within first ssas under.1 o is
    where
      by_occurrence : (o : Option ℕ) → first_occurrence types rows standing a ≡ o → (p : Option ℕ) → first_occurrence types rows standing b ≡ p
          → option_map_or (λ j. min (option_map_or (λ j. min begin j) o begin) j) p (option_map_or (λ j. min begin j) o begin) ≡ option_map_or (λ j. min begin j) o begin
      by_occurrence o e None f = refl
      by_occurrence None e (Some l) f =
          (let E = earlier_above standing a b l within first under.0 f in let wrong : None ≡ Some E.0 = sym e ∙ E.1 in cc)
      by_occurrence (Some j) e (Some l) f =
          (let E = earlier_above standing a b l within first under.0 f in
          let same : Some E.0 ≡ Some j = sym E.1 ∙ e in
          let at_ : E.0 ≡ j = cc in
          let low : j ≤ l = (let most : E.0 ≤ l = E.2 in omega arith) in
          omega arith)

  topmost : (standing : Option ℕ) (above : Option ℕ) (ssas : List Ssa) (begin : ℕ) → IfSome standing (λ i. i < length rows) → Descend types above ssas
      → lowered_start types rows standing ssas begin ≡ option_map_or (λ j. min begin j) (option_and_then (λ a. first_occurrence types rows standing a) (topmost_first ssas)) begin
  topmost standing above [] begin within d = refl
  topmost standing above (a ∷ ssas) begin within d = elim (cases_Bool (has_first a)) [
    | inl first ↦
        stays standing a begin within first ssas (under_all a.code ssas d.1) (first_occurrence types rows standing a) refl
        ∙ sym (ap (λ (o : Option Ssa). option_map_or (λ j. min begin j) (option_and_then (λ a. first_occurrence types rows standing a) o) begin) (cond-true (has_first a) (Some a) (topmost_first ssas) first))
    | inr none ↦
        ap (λ o. lowered_start types rows standing ssas (option_map_or (λ j. min begin j) o begin)) (cond-false (has_first a) _ None none)
        ∙ topmost standing (Some a.code) ssas begin within d.1
        ∙ sym (ap (λ (o : Option Ssa). option_map_or (λ j. min begin j) (option_and_then (λ a. first_occurrence types rows standing a) o) begin) (cond-false (has_first a) (Some a) (topmost_first ssas) none))
  ]

pub only_topmost : OnlyTheTopmostLowers
only_topmost types rows standing ssas begin search_ within = topmost types rows search_.over standing None ssas begin within search_.descend

-- ---- first children beside a path

module _ (types : List SegmentType) (rows : List Segment) (over : AreRowsOf types rows) where
  -- below a row that spans another stands a child of it that spans the other
  child_spans : (n q m : ℕ) → m < n → m < length rows → q < m → Spans types rows q m → (k : ℕ) × (parent_row types rows k ≡ Some q) × Spans types rows k m
  child_spans zero q m few within below s = absurd (omega arith)
  child_spans (suc n) q m few within below s =
      let S : IsStep types rows q m = spans_step types rows q m within below s in
      let less : S.parent < m = S.before in
      elim (cases_lt q S.parent) [
        | inl more ↦ (let I = child_spans n q S.parent (omega arith) (omega arith) more S.spans in
            (I.0, I.1, spans_trans types rows I.0 S.parent m within I.2 (spans_parent types rows S.parent m within S.is)))
        | inr here ↦ (let same : S.parent ≡ q = omega (arith, S.spans.from) in (m, S.is ∙ ap (λ (x : ℕ). Some x) same, spans_self types rows m within))
      ]

  -- of two rows of one parent the later has no lesser code
  codes_ascend : (i j : ℕ) → i < j → j < length rows → parent_row types rows i ≡ parent_row types rows j → (row_at rows i).code ≤ (row_at rows j).code
  codes_ascend i j before within same = elim (cases_eq (row_at rows i).code (row_at rows j).code) [
    | inl even ↦ omega (arith, even)
    | inr other ↦
        (let order_ = (sequence_is types rows over).siblings i j before within ((option_eq-Decides (parent_row types rows i) (parent_row types rows j)).1 same) in
        let less : (row_at rows i).code < (row_at rows j).code = ltb-true (row_at rows i).code (row_at rows j).code
        (sym (cond-false ((row_at rows i).code == (row_at rows j).code) (twins_in_order types (row_at rows i) (row_at rows j)) (nat_lt (row_at rows i).code (row_at rows j).code)
        (ne_eqb (row_at rows i).code (row_at rows j).code other)) ∙ order_) in
        omega arith)
  ]

  beside : (q m code j k : ℕ) → m < length rows → IsFirstChild types rows code q j → parent_row types rows k ≡ Some q → Spans types rows k m
      → nat_le j m ≡ nat_le code (row_at rows k).code
  beside q m code j k within F parent_ s = elim (cases_lt (row_at rows k).code code) [
    | inr more ↦ le-leb j m (elim (cases_lt m j) [
      | inr fine ↦ fine
      | inl behind ↦ absurd
          (let up : (row_at rows k).code ≤ (row_at rows j).code = codes_ascend k j (omega (arith, s.from)) jw (parent_ ∙ sym F.parent_is) in
          let even : (row_at rows k).code ≡ code = omega (arith, F.code_is) in
          let least : j ≤ k = F.least k (nearest_is types rows (level_at types rows k) k q parent_).0 even parent_ in
          omega (arith, s.from))
    ]) ∙ sym (le-leb code (row_at rows k).code more)
    | inl less ↦ lt-leb j m (elim (cases_lt m j) [
      | inl fine ↦ fine
      | inr front ↦ absurd (before less front)
    ]) ∙ sym (lt-leb code (row_at rows k).code less)
  ]
    where
      kw : k < length rows
      kw = omega (arith, s.from)

      jw : j < length rows
      jw = (let up : Spans types rows q k = spans_parent types rows q k kw parent_ in spanned_within types rows q j (omega (arith, up.from)) F.inside)

      before : (row_at rows k).code < code → j ≤ m → ⊥
      before less front = elim (cases_lt j k) [
        | inl w ↦ absurd (let up : (row_at rows j).code ≤ (row_at rows k).code = codes_ascend j k w kw (F.parent_is ∙ sym parent_) in omega (arith, F.code_is))
        | inr w ↦ elim (cases_lt k j) [
          | inl v ↦ absurd
              (let E = end_is types rows k kw in
              let deep : level_at types rows k < level_at types rows j = E.deeper j (omega arith) (omega (arith, s.to)) in
              let one : level_at types rows k ≡ level_at types rows q + 1 = level_below types rows over k q kw parent_ in
              let two : level_at types rows j ≡ level_at types rows q + 1 = level_below types rows over j q jw F.parent_is in omega arith)
          | inr v ↦ absurd (let same : (row_at rows j).code ≡ (row_at rows k).code = ap (λ x. (row_at rows x).code) (let z : j ≡ k = omega arith in z) in omega (arith, F.code_is))
        ]
      ]

pub first_children_by_path : FirstChildrenAreByPath
first_children_by_path types rows q m code j over before inside within is = elim (cases_lt q m) [
  | inl below ↦
      (let K = child_spans types rows over (suc m) q m (omega arith) within below (record { from = before; to = inside }) in
      let kw : K.0 < length rows = omega (arith, K.2.from) in
      let up : level_at types rows K.0 ≡ level_at types rows q + 1 = level_below types rows over K.0 q kw K.1 in
      let on : path_row types rows m (level_at types rows q + 1) ≡ Some K.0 = ap (λ l. path_row types rows m l) (sym up) ∙ path_at types rows over m K.0 within K.2 in
      beside types rows over q m code j K.0 within F K.1 K.2
      ∙ sym (ap (λ o. option_map_or (λ k. nat_le code (row_at rows k).code) o false) on))
  | inr here ↦
      (let same : q ≡ m = omega arith in
      let count : length (path_of types rows m) ≡ level_at types rows m = path_length types rows over m within in
      let level_is : level_at types rows q ≡ level_at types rows m = ap (level_at types rows) same in
      let none : path_row types rows m (level_at types rows q + 1) ≡ None = slice_get_past (path_of types rows m) (level_at types rows q + 1 - 1) (omega arith) in
      lt-leb j m (omega (arith, F.behind)) ∙ sym (ap (λ o. option_map_or (λ k. nat_le code (row_at rows k).code) o false) none))
]
  where
    F : IsFirstChild types rows code q j
    F = first_child_is types rows code q j is

-- ---- GNP

pub parents_first : ParentsComeFirst
parents_first types rows p ssas = same ssas (max p.passed (behind_parent p)) p.passed again
  where
    again : max (max p.passed (behind_parent p)) (behind_parent p) ≡ max p.passed (behind_parent p)
    again = omega arith

    step : (o : Option ℕ) (x y : ℕ) → max x (behind_parent p) ≡ max y (behind_parent p)
        → max (option_map_or (λ j. min x j) o x) (behind_parent p) ≡ max (option_map_or (λ j. min y j) o y) (behind_parent p)
    step None x y e = e
    step (Some j) x y e =
        max_comm (min x j) (behind_parent p) ∙ max-min_distrib_left (behind_parent p) x j
        ∙ ap (λ n. min n (max (behind_parent p) j)) (max_comm (behind_parent p) x ∙ e ∙ max_comm y (behind_parent p))
        ∙ sym (max_comm (min y j) (behind_parent p) ∙ max-min_distrib_left (behind_parent p) y j)

    same : (as_ : List Ssa) (x y : ℕ) → max x (behind_parent p) ≡ max y (behind_parent p)
        → max (lowered_start types rows p.standing as_ x) (behind_parent p) ≡ max (lowered_start types rows p.standing as_ y) (behind_parent p)
    same [] x y e = e
    same (a ∷ as_) x y e =
        same as_ (option_map_or (λ j. min x j) (first_occurrence types rows p.standing a) x) (option_map_or (λ j. min y j) (first_occurrence types rows p.standing a) y)
        (step (first_occurrence types rows p.standing a) x y e)

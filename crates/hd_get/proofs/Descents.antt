-- Going down by the keys and to the last twins that arguments ask for passes over no row that they name.
use Rattle.std.proofs.Common.{◌≡◌, ℕ, zero, suc, ◌+◌, ◌-◌, ◌<◌, ◌≤◌, List, [], ◌∷◌, ◌++◌, length, Bool, true, false, Option, Some, None, refl, sym, ap, subst, ◌∙◌, arith, inl, inr}
use Rattle.std.specs.Prelude.{◌==◌, ◌&&◌, ◌||◌, not, map, slice_index, slice_index_or, unwrap_or, option_and_then, IfSome}
use Rattle.std.specs.Option.{option_map_or}
use Rattle.std.specs.List.{list_all, list_any}
use Rattle.std.specs.Ordering.{nat_cmp, is_eq}
use Rattle.std.specs.Cmp.Lexicographic.{slice_cmp, bytes_decides}
use Rattle.std.proofs.lemmas.List.Folds.{list_all-append}
use Rattle.std.proofs.lemmas.Map.Text.{is_eq-slice_cmp}
use Rattle.std.proofs.lemmas.Bool.{cases_lt, and_parts, and_from, or_cases, or_right, eq-eqb, eqb-true, false≢true}
use Rattle.hd_dbd.specs.Types.{SegmentType}
use Rattle.hd_dbd.specs.declared.hierarchy.Key.{Key}
use Rattle.hd_dbd.specs.Hierarchy.{Database, parent_of, part_of, type_of}
use Rattle.hd_dbd.specs.Segment.{Segment}
use Rattle.hd_dbd.specs.Paths.{row_at, parent_row, path_of, end_of, have_one_parent, is_twin}
use Rattle.hd_dbd.specs.Rows.{key_of}
use Rattle.hd_dbd.proofs.RowPaths.{path_follows}
use Rattle.hd_dbd.specs.Searches.{first_from}
use Rattle.hd_dbd.specs.Forest.{Forest}
use Rattle.hd_dbd.proofs.LevelLaw.{typed}
use Rattle.hd_dbd.proofs.Levels.{type_within}
use Rattle.hd_dbd.proofs.Names.{option_eq-Decides}
use Rattle.hd_volume.specs.Volumes.{VolumeState}
use Rattle.hd_links.specs.Links.{Links, is_child_type, is_last_kept}
use Rattle.hd_links.specs.Placed.{Placed}
use Rattle.hd_links.specs.Steps.{rows_of, address_at, path_at, is_child_row}
use Rattle.hd_image.specs.Records.{links_of, IsVolumeOf}
use Rattle.hd_forest.specs.Walks.{tip}
use Rattle.hd_forest.specs.Rows.{IsOnRow}
use Rattle.hd_forest.specs.Twins.{is_key_below}
use Rattle.hd_calls.specs.Ssas.{Ssa, target_code}
use Rattle.hd_calls.specs.Satisfies.{qualifies, is_last_so, meets, is_named}
use Rattle.hd_calls.specs.Gets.{first_child}
use Rattle.hd_calls.specs.SearchTwins.{next_twin}
use Rattle.hd_calls.specs.SearchWays.{way_down}
use Rattle.hd_calls.specs.Admits.{NonePass, AreRowsOf, AreOnWay, Descend, meets_own, admits, all_admitted, is_on_way}
use Rattle.hd_calls.proofs.Admitting.{named_admitted}
use Rattle.hd_calls.proofs.Searches.{least_some}
use Rattle.hd_calls.proofs.OnPaths.{levels_are, sequence_is}
use Rattle.hd_calls.proofs.SearchTwins.{earlier_twins_fail}
use Rattle.hd_calls.proofs.SearchWays.{first_children, down_of}
use Rattle.hd_get.specs.Asking.{asks_last, goes_to_last, least_key_of, is_from, address_from}
use Rattle.hd_ssa.proofs.EqualKeys.{qualifies_by_key}
use Rattle.hd_ssa.specs.EqualKeys.{key_asked}
use Rattle.hd_get.specs.Descents.{IsChildFrom, key_asked_of, asks_for, ask_for, IsStepDown, LeadsOnward}
use Rattle.hd_get.proofs.Spans.{child_is, parent_span, one_option}
use Rattle.hd_get.proofs.Climbs.{path_is}
use Rattle.hd_get.proofs.Grounds.{held_rows, grounds, tip_code}
use Rattle.hd_get.proofs.Asking.{child_of}
use Rattle.hd_get.proofs.LastChildren.{child_parts, none_before_children, last_admitted}
use Rattle.hd_get.proofs.AcrossTo.{below_fails}

-- an argument's type is on the way to the last one's
pub on_way_at : (types : List SegmentType) (t n : ℕ) (ssas : List Ssa) (x : Ssa) → AreOnWay types t ssas → n < length ssas → x ≡ slice_index_or ssas n x → is_on_way types t x.code ≡ true
on_way_at types t n [] x all within is = absurd (omega arith)
on_way_at types t zero (a ∷ ssas) x all within is = subst (λ (y : Ssa). is_on_way types t y.code ≡ true) (sym is) all.0
on_way_at types t (suc n) (a ∷ ssas) x all within is = on_way_at types t n ssas x all.1 (omega arith) is

module _ (types : List SegmentType) (rows : List Segment) (over : AreRowsOf types rows) (i code : ℕ) (within : i < length rows) where
  -- the type is a child type of the row's
  pub child_typed : parent_of types code ≡ Some (row_at rows i).code → is_child_type types (row_at rows i).code code ≡ true
  child_typed parent = child_of types (row_at rows i).code code some parent
    where
      some : (row_at rows i).code ≡ 0 → ⊥
      some z =
          (let T = typed types (row_at rows i) ((sequence_is types rows over).fit i within) in
          let low : 0 < (row_at rows i).code = (type_within types (row_at rows i).code T.0 T.1).0 in omega arith)

-- the first child from a key on is a child, behind the first one or that
pub record IsFrom (types : List SegmentType) (rows : List Segment) (i code first j : ℕ) : Type 0 where
  pub later : i < first
  pub behind : first ≤ j
  pub within : j < length rows
  pub parent : parent_row types rows j ≡ Some i
  pub code_is : (row_at rows j).code ≡ code

module _ (types : List SegmentType) (rows : List Segment) (i code : ℕ) (within : i < length rows) (key : List ℕ) (first j : ℕ) (child : first_child types rows code i ≡ Some first)
    (from : first_from (is_from types rows key first) first (length rows) ≡ Some j) where
  pub from_parts : IsFrom types rows i code first j
  from_parts =
      let C = child_is types rows i code first within child in
      let L = least_some (is_from types rows key first) (length rows - first) first j from in
      let low : first ≤ j = L.0 in
      let high : j < first + (length rows - first) = L.1 in
      let fw : first < length rows = C.within in
      let later : i < first = (parent_span types rows first i fw C.parent).0 in
      elim (or_cases (first == j) (is_twin types rows first j) (and_parts (first == j || is_twin types rows first j) _ L.2).0) [
        | inl here ↦
            (let e : first ≡ j = eqb-true first j here in record {
              later = later;
              behind = low;
              within = omega arith;
              parent = ap (parent_row types rows) (sym e) ∙ C.parent;
              code_is = ap (λ k. (row_at rows k).code) (sym e) ∙ C.code_is;
            })
        | inr twin ↦
            (let T = and_parts ((row_at rows first).code == (row_at rows j).code) (have_one_parent types rows first j) twin in record {
              later = later;
              behind = low;
              within = omega arith;
              parent = sym (one_option (parent_row types rows first) (parent_row types rows j) T.1) ∙ C.parent;
              code_is = sym (eqb-true (row_at rows first).code (row_at rows j).code T.0) ∙ C.code_is;
            })
      ]

  module _ (over : AreRowsOf types rows) (ssas : List Ssa) (way : is_on_way types (target_code ssas) code ≡ true) (parent : parent_of types code ≡ Some (row_at rows i).code)
      (least : least_key_of types ssas code ≡ Some key) where
    -- before the first child of the type none is named
    before_children : NonePass (is_named types rows ssas) i first
    before_children =
        subst (λ (o : Option ℕ). NonePass (is_named types rows ssas) i (unwrap_or o (end_of types rows i))) child
        (first_children types rows ssas i code over within
        (down_of types (levels_are types rows over) (target_code ssas) (row_at rows i).code code
        (and_from _ _ ((option_eq-Decides (parent_of types code) (Some (row_at rows i).code)).1 parent) way)))

    -- a twin that is passed over is not admitted
    passed : (k : ℕ) → (row_at rows k).code ≡ code → (first == k || is_twin types rows first k) ≡ true → is_from types rows key first k ≡ false → admits types rows ssas k ≡ false
    passed k own twin none =
        below_fails types rows k code ssas key least own (by (first == k || is_twin types rows first k) (is_key_below types key (row_at rows k)) twin none)
      where
        by : (x y : Bool) → x ≡ true → (x && not y) ≡ false → y ≡ true
        by true true e h = refl
        by true false e h = cc
        by false y e h = cc

    -- nor is any named before the first child from the key on
    pub none_below : NonePass (is_named types rows ssas) i j
    none_below k low high = elim (cases_lt k first) [
      | inl before ↦ before_children k low before
      | inr behind ↦
          (let C = child_is types rows i code first within child in
          let L = least_some (is_from types rows key first) (length rows - first) first j from in
          let fw : first < length rows = C.within in
          let top : j < first + (length rows - first) = L.1 in
          let jw : j < length rows = omega arith in
          let more : first < j = omega arith in
          let twin : is_twin types rows first j ≡ true = elim (or_cases (first == j) (is_twin types rows first j) (and_parts (first == j || is_twin types rows first j) _ L.2).0) [
            | inl here ↦ absurd (let e : first ≡ j = eqb-true first j here in omega arith)
            | inr t ↦ t
          ] in
          earlier_twins_fail types rows ssas first j over fw jw (subst (λ c. is_on_way types (target_code ssas) c ≡ true) (sym C.code_is) way) twin
          (passed first C.code_is (own first) (L.3 first (omega arith) more))
          (λ t a b is. passed t (sym (eqb-true (row_at rows first).code (row_at rows t).code (and_parts ((row_at rows first).code == (row_at rows t).code) (have_one_parent types rows first t) is).0) ∙ C.code_is)
          (or_right (first == t) (is_twin types rows first t) is) (L.3 t (omega arith) b)) k behind high)
    ]
      where
        own : (n : ℕ) → (n == n || is_twin types rows n n) ≡ true
        own n = ap (λ b. b || is_twin types rows n n) (same n)
          where
            same : (n : ℕ) → (n == n) ≡ true
            same n = eq-eqb n n refl

-- the path to the first child from a key on, where that has an address
module _ (types : List SegmentType) (f : Forest Placed) (i code : ℕ) (within : i < length (rows_of f)) (key : List ℕ) (first : ℕ) (child : first_child types (rows_of f) code i ≡ Some first) where
  pub child_from : (a : ℕ) → 0 < a → a ≡ address_from types f key first → (j : ℕ) × IsChildFrom types f key i code j × (path_at types f i ++ a ∷ [] ≡ path_at types f j) × (a ≡ address_at f j)
  child_from a some is = by (first_from (is_from types (rows_of f) key first) first (length (rows_of f))) refl is
    where
      by : (o : Option ℕ) → first_from (is_from types (rows_of f) key first) first (length (rows_of f)) ≡ o → a ≡ option_map_or (λ j. address_at f j) o 0
          → (j : ℕ) × IsChildFrom types f key i code j × (path_at types f i ++ a ∷ [] ≡ path_at types f j) × (a ≡ address_at f j)
      by None e z = absurd (omega arith)
      by (Some j) e z =
          (let P = from_parts types (rows_of f) i code within key first j child e in (
            j,
            record { first = first; is_first = child; from = e },
            ap (λ x. path_at types f i ++ x ∷ []) z
                ∙ ap (λ (o : Option ℕ). option_map_or (λ q. path_at types f q) o [] ++ address_at f j ∷ []) (sym P.parent)
                ∙ sym (path_is types f j),
            z,
          ))

-- ---- arguments that ask for a key

-- of an argument that asks for a key, a row of its type with that key meets it
meets_key : (types : List SegmentType) (rows : List Segment) (j : ℕ) (a : Ssa) (key : List ℕ) → (row_at rows j).code ≡ a.code → key_of types (row_at rows j) ≡ key → asks_for types key a ≡ true
    → meets types rows a j ≡ true
meets_key types rows j a key own is asks =
    let P = and_parts (not a.commands.last) _ asks in
    ap (λ b. qualifies a (row_at rows j) && (b || a.code == 1 || is_last_so types rows a j)) P.0
    ∙ ap (λ b. b && true) (by_key (key_asked_of types a) refl P.1)
  where
    by_type : (v : List ℕ) (o : Option SegmentType) → type_of types a.code ≡ o → option_and_then (λ t. option_and_then (λ k. key_asked k a) t.key) o ≡ Some v
        → option_map_or (λ t. option_map_or (λ k. part_of (row_at rows j).bytes k.start k.length) t.key []) o [] ≡ v → qualifies a (row_at rows j) ≡ true
    by_type v None e h same = cc
    by_type v (Some t) e h same = by_place t.key h same
      where
        by_place : (o : Option Key) → option_and_then (λ k. key_asked k a) o ≡ Some v → option_map_or (λ k. part_of (row_at rows j).bytes k.start k.length) o [] ≡ v → qualifies a (row_at rows j) ≡ true
        by_place None h same = cc
        by_place (Some k) h same = qualifies_by_key k a v h (row_at rows j) same

    by_key : (o : Option (List ℕ)) → key_asked_of types a ≡ o → option_map_or (λ v. is_eq (slice_cmp nat_cmp v key)) o false ≡ true → qualifies a (row_at rows j) ≡ true
    by_key None e h = cc
    by_key (Some v) e h =
        (let same : v ≡ key = (bytes_decides v key).0 (sym (is_eq-slice_cmp v key) ∙ h) in
        by_type v (type_of types a.code) refl e
        (ap (λ (o : Option SegmentType). option_map_or (λ t. option_map_or (λ k. part_of (row_at rows j).bytes k.start k.length) t.key []) o []) (ap (type_of types) (sym own)) ∙ is ∙ sym same))

-- of arguments that ask for a key of a type, a row of that type with that key is admitted
pub admits_key : (types : List SegmentType) (rows : List Segment) (j code : ℕ) (ssas : List Ssa) (key : List ℕ) → (row_at rows j).code ≡ code → key_of types (row_at rows j) ≡ key
    → ask_for types ssas code key ≡ true → admits types rows ssas j ≡ true
admits_key types rows j code [] key own is asks = refl
admits_key types rows j code (a ∷ ssas) key own is asks =
    let P = and_parts (not (a.code == code) || asks_for types key a) _ asks in
    and_from _ _ (by_code (a.code == code) refl P.0) (admits_key types rows j code ssas key own is P.1)
  where
    by_code : (b : Bool) → (a.code == code) ≡ b → (not b || asks_for types key a) ≡ true → meets_own types rows j a ≡ true
    by_code true e h = ap (λ x. not (a.code == (row_at rows j).code) || x) (meets_key types rows j a key (own ∙ sym (eqb-true a.code code e)) is h) ∙ or_true (not (a.code == (row_at rows j).code))
      where
        or_true : (b : Bool) → (b || true) ≡ true
        or_true true = refl
        or_true false = refl
    by_code false e h = ap (λ b. not b || meets types rows a j) (ap (λ c. a.code == c) own ∙ e)

-- the argument at a place, by its code
pub code_at_place : (n : ℕ) (ssas : List Ssa) (x : Ssa) → n < length ssas → x ≡ slice_index_or ssas n x → slice_index (map (λ a. a.code) ssas) n ≡ x.code
code_at_place n [] x within is = absurd (omega arith)
code_at_place zero (a ∷ ssas) x within is = ap (λ (y : Ssa). y.code) (sym is)
code_at_place (suc n) (a ∷ ssas) x within is = code_at_place n ssas x (omega arith) is

-- ---- one step down

-- a path that stayed is that of the row
pub stayed : (types : List SegmentType) (m : Links) (f : Forest Placed) (ssas : List Ssa) (i code : ℕ) (old new : List ℕ) → IsOnRow types m f old i → new ≡ old → IsStepDown types f ssas i code None new
stayed types m f ssas i code old new on same = record {
  number = i;
  later = omega arith;
  within = on.within;
  none = λ j low high. absurd (omega arith);
  is = same ∙ on.is;
  child = tt;
}

module _ (d : Database) (v : VolumeState) (of : IsVolumeOf d v) (f : Forest Placed) (path : List ℕ) (i code : ℕ) (on : IsOnRow d.types (links_of d.types v) f path i)
    (parent : parent_of d.types code ≡ Some ((links_of d.types v).code (tip path))) where
  -- the parent's type is the row's
  pub parent_is : parent_of d.types code ≡ Some (row_at (rows_of f) i).code
  parent_is = parent ∙ ap (λ (c : ℕ). Some c) (tip_code d.types (links_of d.types v) f (grounds d v f of on.holds) path i on)

  -- so the type is a child type of that
  pub child_type_is : is_child_type d.types (row_at (rows_of f) i).code code ≡ true
  child_type_is = child_typed d.types (rows_of f) (held_rows d v f of on.holds) i code on.within parent_is

  module _ (ssas : List Ssa) (way : is_on_way d.types (target_code ssas) code ≡ true) where
    -- down to the first child from the key on that is asked for
    pub stepped_to_key : (key : List ℕ) → least_key_of d.types ssas code ≡ Some key → (j : ℕ) → IsChildFrom d.types f key i code j → (new : List ℕ) → new ≡ path_at d.types f j → (r : Option Bool)
        → IfSome r (λ told. told ≡ true → admits d.types (rows_of f) ssas j ≡ true) → IsStepDown d.types f ssas i code r new
    stepped_to_key key least j C new is r met =
        let P = from_parts d.types (rows_of f) i code on.within key C.first j C.is_first C.from in
        let low : i < C.first = P.later in
        let high : C.first ≤ j = P.behind in
        record {
          number = j;
          later = omega arith;
          within = P.within;
          none = none_below d.types (rows_of f) i code on.within key C.first j C.is_first C.from (held_rows d v f of on.holds) ssas way parent_is least;
          is = is;
          child = by r met (and_from _ _ ((option_eq-Decides (parent_row d.types (rows_of f) j) (Some i)).1 P.parent) (eq-eqb (row_at (rows_of f) j).code code P.code_is));
        }
      where
        by : (r : Option Bool) → IfSome r (λ told. told ≡ true → admits d.types (rows_of f) ssas j ≡ true) → is_child_row d.types (rows_of f) i code j ≡ true
            → IfSome r (λ told. (is_child_row d.types (rows_of f) i code j ≡ true) × (told ≡ true → admits d.types (rows_of f) ssas j ≡ true))
        by None met child = tt
        by (Some told) met child = (child, met)

    -- down to the last child, where that is asked for
    pub stepped_to_last : Descend d.types None ssas → goes_to_last d.types ssas code ≡ true → (j : ℕ) → j < length (rows_of f) → is_child_row d.types (rows_of f) i code j ≡ true
        → next_twin d.types (rows_of f) j ≡ None → (new : List ℕ) → new ≡ path_at d.types f j → IsStepDown d.types f ssas i code (Some true) new
    stepped_to_last descend goes j within child last new is =
        let over = held_rows d v f of on.holds in
        let levels = levels_are d.types (rows_of f) over in
        let P = child_parts d.types (rows_of f) i code j child in
        let asks = (and_parts (is_last_kept d.types code) (list_any (λ a. asks_last code a) ssas) goes).1 in
        let low : i < j = (parent_span d.types (rows_of f) j i within P.0).0 in
        let down : way_down d.types (target_code ssas) (row_at (rows_of f) i).code ≡ Some code
        = down_of d.types levels (target_code ssas) (row_at (rows_of f) i).code code (and_from _ _ ((option_eq-Decides (parent_of d.types code) (Some (row_at (rows_of f) i).code)).1 parent_is) way) in
        record {
          number = j;
          later = omega arith;
          within = within;
          none = none_before_children d.types (rows_of f) ssas i code over on.within down asks j within child;
          is = is;
          child = (child, λ e. last_admitted d.types levels (rows_of f) j code P.1 last None ssas descend asks);
        }

-- ---- one level further down

-- A path goes down from row i to a later row, and none that the SSAs name is before that; where so much is told, what is on the way is admitted.
pub record HasCome (d : Database) (v : VolumeState) (f : Forest Placed) (ssas : List Ssa) (i : ℕ) (told : Bool) (path : List ℕ) (number : ℕ) : Type 0 where
  pub later : i ≤ number
  pub none : NonePass (is_named d.types (rows_of f) ssas) i number
  pub row : IsOnRow d.types (links_of d.types v) f path number
  pub admitted : told ≡ true → all_admitted d.types (rows_of f) ssas i ≡ true → all_admitted d.types (rows_of f) ssas number ≡ true

module _ (d : Database) (v : VolumeState) (f : Forest Placed) (ssas : List Ssa) (i n code : ℕ) (told : Bool) (old new : List ℕ) (come : HasCome d v f ssas i told old n) where
  -- none is named before the row that a step leads to
  none_further : (r : Option Bool) (S : IsStepDown d.types f ssas n code r new) → NonePass (is_named d.types (rows_of f) ssas) i S.number
  none_further r S k low high = elim (cases_lt k n) [
    | inl early ↦ come.none k low early
    | inr late ↦ S.none k late high
  ]

  -- that row's path
  row_further : (r : Option Bool) (S : IsStepDown d.types f ssas n code r new) → IsOnRow d.types (links_of d.types v) f new S.number
  row_further r S = record { holds = come.row.holds; within = S.within; is = S.is }

  -- a step that is the last
  pub come_so_far : (r : Option Bool) → IsStepDown d.types f ssas n code r new → LeadsOnward d v f ssas i false new
  come_so_far r S =
      let a : i ≤ n = come.later in
      let b : n ≤ S.number = S.later in
      record { number = S.number; later = omega arith; none = none_further r S; row = row_further r S; named = λ e all. absurd (false≢true e) }

  -- a step to a child
  pub further : (met : Bool) (S : IsStepDown d.types f ssas n code (Some met) new) → HasCome d v f ssas i (told && met) new S.number
  further met S =
      let a : i ≤ n = come.later in
      let b : n ≤ S.number = S.later in
      record {
        later = omega arith;
        none = none_further (Some met) S;
        row = row_further (Some met) S;
        admitted = λ e all. (
            let T = and_parts told met e in
            let parent = (child_parts d.types (rows_of f) n code S.number S.child.0).0 in
            let follows : path_of d.types (rows_of f) S.number ≡ path_of d.types (rows_of f) n ++ S.number ∷ []
            = path_follows d.types (rows_of f) S.number ∙ ap (λ (o : Option ℕ). option_map_or (λ p. path_of d.types (rows_of f) p) o [] ++ S.number ∷ []) parent in
            ap (list_all (λ k. admits d.types (rows_of f) ssas k)) follows
            ∙ list_all-append (λ k. admits d.types (rows_of f) ssas k) (path_of d.types (rows_of f) n) (S.number ∷ [])
            ∙ and_from _ _ (come.admitted T.0 all) (and_from _ _ (S.child.1 T.1) refl));
      }

  -- the row that it leads to is of the type
  pub further_code : (of : IsVolumeOf d v) (met : Bool) → IsStepDown d.types f ssas n code (Some met) new → (links_of d.types v).code (tip new) ≡ code
  further_code of met S =
      tip_code d.types (links_of d.types v) f (grounds d v f of come.row.holds) new S.number (row_further (Some met) S) ∙ (child_parts d.types (rows_of f) n code S.number S.child.0).1

-- behind the last argument the row is named, where all on its path are admitted
pub come_to_last : (d : Database) (v : VolumeState) → IsVolumeOf d v → (f : Forest Placed) (ssas : List Ssa) → Descend d.types None ssas → (i : ℕ) (told : Bool) (path : List ℕ) (n : ℕ)
    → HasCome d v f ssas i told path n → (links_of d.types v).code (tip path) ≡ target_code ssas → LeadsOnward d v f ssas i told path
come_to_last d v of f ssas descend i told path n come code =
    let G = grounds d v f of come.row.holds in
    let own : (row_at (rows_of f) n).code ≡ target_code ssas = sym (tip_code d.types (links_of d.types v) f G path n come.row) ∙ code in
    record {
      number = n;
      later = come.later;
      none = come.none;
      row = come.row;
      named = λ e all. named_admitted d.types (rows_of f) ssas n (record { over = held_rows d v f of come.row.holds; descend = descend }) come.row.within
          ∙ and_from _ _ (eq-eqb (row_at (rows_of f) n).code (target_code ssas) own) (come.admitted e all);
    }

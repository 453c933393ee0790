-- A valid list of rows is the sequence of one forest that fits.
use Rattle.std.proofs.Common.{◌≡◌, ℕ, zero, suc, ◌+◌, ◌-◌, ◌<◌, ◌≤◌, List, [], ◌∷◌, ◌++◌, length, true, false, arith, ap, sym, ◌∙◌, subst, Option, Some, None, refl, inl, inr}
use Rattle.std.specs.Prelude.{slice_get, ◌==◌}
use Rattle.std.specs.Option.{option_map_or}
use Rattle.std.proofs.lemmas.Bool.{and_parts, and_from, eqb-true, cases_lt}
use Rattle.std.proofs.lemmas.List.{append_assoc, append-nil, length-append}
use Rattle.std.proofs.lemmas.Option.{slice_get_within}
use Rattle.hd_dbd.specs.Types.{SegmentType}
use Rattle.hd_dbd.specs.Segment.{Segment}
use Rattle.hd_dbd.specs.Hierarchy.{parent_of, level_of}
use Rattle.hd_dbd.specs.Rows.{valid_from, may_follow, next_path, level, is_below, row_fits, siblings_in_order}
use Rattle.hd_dbd.specs.Forest.{Forest, empty, node, sequence, fits_below}
use Rattle.hd_dbd.proofs.LevelLaw.{Leveled, depth_below}
use Rattle.hd_dbd.proofs.Names.{option_eq-Decides}
use Rattle.hd_dbd.proofs.Sequences.{EndsWith, slice_get_behind, end_at, next_is}

-- the first row, if there is one, is on this level or above it
abbrev Upto : List SegmentType → ℕ → List Segment → Type 0
Upto types depth [] = Unit {0}
Upto types depth (r ∷ rows) = level types r ≤ depth

-- a row that may follow a path is at most one level below its end
pub low_after : (types : List SegmentType) (leveled : Leveled types) (path : List Segment) (r : Segment) → may_follow types path r ≡ true → level types r ≤ length path + 1
low_after types leveled path r follows =
    let parts = and_parts _ _ follows in
    let firsts = and_parts _ _ parts.0 in
    by_parent (parent_of types r.code) firsts.1 (leveled.law r firsts.0)
  where
    by_parent : (parent : Option ℕ) → option_map_or (λ p. option_map_or (λ q. q.code == p) (slice_get path (level types r - 2)) false) parent true ≡ true
        → level types r ≡ depth_below types parent + 1 → level types r ≤ length path + 1
    by_parent None below at = omega arith
    by_parent (Some p) below at = by_place (slice_get path (level types r - 2)) refl below
      where
        by_place : (o : Option Segment) → slice_get path (level types r - 2) ≡ o → option_map_or (λ q. q.code == p) o false ≡ true → level types r ≤ length path + 1
        by_place None is found = cc
        by_place (Some q) is found = (let within : level types r - 2 < length path = slice_get_within path (level types r - 2) q is in omega arith)

-- a row just below the path's first part is of the parent that this part ends with
parent_is : (types : List SegmentType) (leveled : Leveled types) (P Q : List Segment) (r : Segment) (parent : Option ℕ)
    → length P ≡ depth_below types parent → EndsWith parent P → row_fits types r ≡ true → is_below types (P ++ Q) r ≡ true → level types r ≡ length P + 1
    → parent_of types r.code ≡ parent
parent_is types leveled P Q r parent deep ends fits below at = by_own (parent_of types r.code) refl parent deep ends below (leveled.law r fits)
  where
    by_own : (own : Option ℕ) → parent_of types r.code ≡ own → (above : Option ℕ) → length P ≡ depth_below types above → EndsWith above P
        → option_map_or (λ p. option_map_or (λ q. q.code == p) (slice_get (P ++ Q) (level types r - 2)) false) own true ≡ true
        → level types r ≡ depth_below types (parent_of types r.code) + 1 → parent_of types r.code ≡ above
    by_own None is None deep ends found law = is
    by_own None is (Some p) deep ends found law =
        let own_depth : depth_below types (parent_of types r.code) ≡ 0 = ap (λ (o : Option ℕ). depth_below types o) is in
        absurd (omega (arith, ap (λ (xs : List Segment). length xs) ends.2, length-append ends.1 (ends.0 ∷ [])))
    by_own (Some p) is None deep ends found law =
        let own_depth : depth_below types (parent_of types r.code) ≡ level_of types p = ap (λ (o : Option ℕ). depth_below types o) is in
        let some : 0 < level_of types p = leveled.parents r p fits is in
        absurd (omega arith)
    by_own (Some p) is (Some q) deep ends found law =
        let same : (ends.0.code == p) ≡ true =
        ap (λ (o : Option Segment). option_map_or (λ s. s.code == p) o false) (sym (end_at types ends.1 P Q r ends.0 ends.2 at)) ∙ found in
        is ∙ ap (λ (n : ℕ). Some n) (sym (eqb-true ends.0.code p same) ∙ ends.3)

-- A forest of the first rows below a parent, and the rows behind it.
record Read (types : List SegmentType) (P rows : List Segment) (parent : Option ℕ) (before : Option Segment) : Type 0 where
  forest : Forest Segment
  rest : List Segment
  last : List Segment
  is : sequence forest ++ rest ≡ rows
  fits : fits_below types parent before forest ≡ true
  ends : Upto types (length P) rest
  left : valid_from types (P ++ last) rest ≡ true
  short : length rest ≤ length rows

-- rows that are valid behind a path begin at most one level below its end
upto_after : (types : List SegmentType) (leveled : Leveled types) (path rows : List Segment) → valid_from types path rows ≡ true → Upto types (length path + 1) rows
upto_after types leveled path [] valid = tt
upto_after types leveled path (r ∷ rows) valid = low_after types leveled path r (and_parts _ _ valid).0

-- so many rows at most, valid behind a path, can be read
abbrev Reads : List SegmentType → ℕ → Type 0
Reads types fuel =
    (P Q rows : List Segment) (parent : Option ℕ) (before : Option Segment)
    → length rows ≤ fuel → length P ≡ depth_below types parent → EndsWith parent P → slice_get Q 0 ≡ before → Upto types (length P + 1) rows
    → valid_from types (P ++ Q) rows ≡ true → Read types P rows parent before

-- a row, what depends on it, what stands behind, and the rest are all rows
joined : (r : Segment) (below behind rest left rows : List Segment) → behind ++ rest ≡ left → below ++ left ≡ rows → (r ∷ (below ++ behind)) ++ rest ≡ r ∷ rows
joined r below behind rest left rows e f = ap (λ (rs : List Segment). r ∷ rs) (append_assoc below behind rest ∙ ap (λ (rs : List Segment). below ++ rs) e ∙ f)

-- a row of the parent in order, what depends on it, and what stands behind fit together
node_fits : (types : List SegmentType) (r : Segment) (below behind : Forest Segment) (parent : Option ℕ) (before : Option Segment) → row_fits types r ≡ true
    → parent_of types r.code ≡ parent → option_map_or (λ p. siblings_in_order types p r) before true ≡ true → fits_below types (Some r.code) None below ≡ true
    → fits_below types parent (Some r) behind ≡ true → fits_below types parent before (node r below behind) ≡ true
node_fits types r below behind parent before fits own order down on =
    and_from _ _ (and_from _ _ (and_from _ _ (and_from _ _ fits ((option_eq-Decides _ _).1 own)) order) down) on

-- a row just below the path's first part, what depends on it, and the rows of its parent behind it
read_node : (types : List SegmentType) (leveled : Leveled types) (fuel : ℕ) → Reads types fuel
    → (P Q : List Segment) (r : Segment) (rows : List Segment) (parent : Option ℕ) (before : Option Segment)
    → length rows ≤ fuel → length P ≡ depth_below types parent → EndsWith parent P → slice_get Q 0 ≡ before → level types r ≡ length P + 1
    → valid_from types (P ++ Q) (r ∷ rows) ≡ true → Read types P (r ∷ rows) parent before
read_node types leveled fuel again P Q r rows parent before enough deep ends first at valid =
    let parts = and_parts _ _ valid in
    let two = and_parts _ _ parts.0 in
    let one = and_parts _ _ two.0 in
    let own : parent_of types r.code ≡ parent = parent_is types leveled P Q r parent deep ends one.0 one.1 at in
    let one_up : length P ≡ level types r - 1 = omega arith in
    let order : option_map_or (λ p. siblings_in_order types p r) before true ≡ true =
    ap (λ (o : Option Segment). option_map_or (λ p. siblings_in_order types p r) o true) (sym first ∙ sym (slice_get_behind P Q))
    ∙ ap (λ (k : ℕ). option_map_or (λ p. siblings_in_order types p r) (slice_get (P ++ Q) k) true) one_up ∙ two.1 in
    let deeper : length (P ++ r ∷ []) ≡ length P + 1 = length-append P (r ∷ []) in
    let next : next_path types (P ++ Q) r ≡ P ++ r ∷ [] = next_is types P Q r at in
    let left : valid_from types (P ++ r ∷ []) rows ≡ true = subst (λ (path : List Segment). valid_from types path rows ≡ true) next parts.1 in
    let down : Read types (P ++ r ∷ []) rows (Some r.code) None =
    again (P ++ r ∷ []) [] rows (Some r.code) None enough (deeper ∙ sym at) (r, P, refl, refl) refl (upto_after types leveled (P ++ r ∷ []) rows left)
    (ap (λ (path : List Segment). valid_from types path rows) (append-nil (P ++ r ∷ [])) ∙ left) in
    let fewer : length down.rest ≤ fuel = (let short : length down.rest ≤ length rows = down.short in omega arith) in
    let on : Read types P down.rest parent (Some r) =
    again P (r ∷ down.last) down.rest parent (Some r) fewer deep ends refl
    (subst (λ (n : ℕ). Upto types n down.rest) deeper down.ends)
    (ap (λ (path : List Segment). valid_from types path down.rest) (sym (append_assoc P (r ∷ []) down.last)) ∙ down.left) in
    record {
      forest = node r down.forest on.forest;
      rest = on.rest;
      last = on.last;
      is = joined r (sequence down.forest) (sequence on.forest) on.rest down.rest rows on.is down.is;
      fits = node_fits types r down.forest on.forest parent before one.0 own order down.fits on.fits;
      ends = on.ends;
      left = on.left;
      short = (let a : length down.rest ≤ length rows = down.short in let b : length on.rest ≤ length down.rest = on.short in omega arith);
    }

-- rows that are valid behind a path are a forest below the path's first part, and rows behind it
read : (types : List SegmentType) (leveled : Leveled types) (fuel : ℕ) → Reads types fuel
read types leveled fuel P Q [] parent before enough deep ends first low valid =
    record { forest = empty; rest = []; last = Q; is = refl; fits = refl; ends = tt; left = valid; short = omega arith }
read types leveled zero P Q (r ∷ rows) parent before enough deep ends first low valid = absurd (omega arith)
read types leveled (suc fuel) P Q (r ∷ rows) parent before enough deep ends first low valid = elim (cases_lt (length P) (level types r)) [
  | inr above ↦ record { forest = empty; rest = r ∷ rows; last = Q; is = refl; fits = refl; ends = above; left = valid; short = omega arith }
  | inl under ↦ read_node types leveled fuel (read types leveled fuel) P Q r rows parent before (omega arith) deep ends first (let lowest : level types r ≤ length P + 1 = low in omega arith) valid
]

-- no row stands above the first level
none_above : (types : List SegmentType) (leveled : Leveled types) (path rows : List Segment) → Upto types 0 rows → valid_from types path rows ≡ true → rows ≡ []
none_above types leveled path [] low valid = refl
none_above types leveled path (r ∷ rows) low valid =
    let parts = and_parts _ _ (and_parts _ _ (and_parts _ _ valid).0).0 in
    let at : level types r ≡ depth_below types (parent_of types r.code) + 1 = leveled.law r parts.0 in
    let root : level types r ≤ 0 = low in
    absurd (omega arith)

-- a valid list is the sequence of a forest that fits
pub valid_forest : (types : List SegmentType) (leveled : Leveled types) (rows : List Segment) → valid_from types [] rows ≡ true
    → (f : Forest Segment) × (fits_below types None None f ≡ true) × (sequence f ≡ rows)
valid_forest types leveled rows valid =
    let all : Read types [] rows None None = read types leveled (length rows) [] [] rows None None (omega arith) refl tt refl (upto_after types leveled [] rows valid) valid in
    let over : all.rest ≡ [] = none_above types leveled ([] ++ all.last) all.rest all.ends all.left in
    (all.forest, all.fits, sym (append-nil (sequence all.forest)) ∙ ap (λ (rs : List Segment). sequence all.forest ++ rs) (sym over) ∙ all.is)

-- the first row below a parent is one level below it
top_level : (types : List SegmentType) (leveled : Leveled types) (parent : Option ℕ) (before : Option Segment) (r : Segment) (below behind : Forest Segment)
    → fits_below types parent before (node r below behind) ≡ true → level types r ≡ depth_below types parent + 1
top_level types leveled parent before r below behind fits =
    let b = and_parts _ _ (and_parts _ _ fits).0 in
    let p = and_parts _ _ (and_parts _ _ b.0).0 in
    let own : parent_of types r.code ≡ parent = (option_eq-Decides _ _).0 p.1 in
    leveled.law r p.0 ∙ ap (λ (o : Option ℕ). depth_below types o + 1) own

-- behind what depends on a row nothing stands deeper than the row
upto_level : (types : List SegmentType) (leveled : Leveled types) (parent : Option ℕ) (before : Option Segment) (f : Forest Segment) (xs : List Segment) (l : ℕ)
    → l ≡ depth_below types parent + 1 → fits_below types parent before f ≡ true → Upto types (depth_below types parent) xs → Upto types l (sequence f ++ xs)
upto_level types leveled parent before empty [] l is fits low = tt
upto_level types leveled parent before empty (x ∷ xs) l is fits low = (let first : level types x ≤ depth_below types parent = low in omega arith)
upto_level types leveled parent before (node r below behind) xs l is fits low =
    (let top : level types r ≡ depth_below types parent + 1 = top_level types leveled parent before r below behind fits in omega arith)

-- one list, one forest
pub one_forest : (types : List SegmentType) (leveled : Leveled types) (f g : Forest Segment) (parent : Option ℕ) (bf bg : Option Segment) (xs ys : List Segment)
    → fits_below types parent bf f ≡ true → fits_below types parent bg g ≡ true → Upto types (depth_below types parent) xs → Upto types (depth_below types parent) ys
    → sequence f ++ xs ≡ sequence g ++ ys → (f ≡ g) × (xs ≡ ys)
one_forest types leveled empty empty parent bf bg xs ys ff fg hx hy e = (refl, e)
one_forest types leveled empty (node s k n) parent bf bg xs ys ff fg hx hy e =
    let top : level types s ≡ depth_below types parent + 1 = top_level types leveled parent bg s k n fg in
    let low : level types s ≤ depth_below types parent = subst (Upto types (depth_below types parent)) e hx in
    absurd (omega arith)
one_forest types leveled (node r k n) empty parent bf bg xs ys ff fg hx hy e =
    let top : level types r ≡ depth_below types parent + 1 = top_level types leveled parent bf r k n ff in
    let low : level types r ≤ depth_below types parent = subst (Upto types (depth_below types parent)) (sym e) hy in
    absurd (omega arith)
one_forest types leveled (node r k n) (node s k2 n2) parent bf bg xs ys ff fg hx hy e =
    let same : r ≡ s = cc in
    let tails : (sequence k ++ sequence n) ++ xs ≡ (sequence k2 ++ sequence n2) ++ ys = cc in
    let f_all = and_parts _ _ ff in
    let g_all = and_parts _ _ fg in
    let f_below : fits_below types (Some r.code) None k ≡ true = (and_parts _ _ f_all.0).1 in
    let g_below : fits_below types (Some r.code) None k2 ≡ true =
    ap (λ (q : Segment). fits_below types (Some q.code) None k2) same ∙ (and_parts _ _ g_all.0).1 in
    let top : level types r ≡ depth_below types parent + 1 = top_level types leveled parent bf r k n ff in
    let kids : (k ≡ k2) × (sequence n ++ xs ≡ sequence n2 ++ ys) =
    one_forest types leveled k k2 (Some r.code) None None (sequence n ++ xs) (sequence n2 ++ ys) f_below g_below
    (upto_level types leveled parent (Some r) n xs (level types r) top f_all.1 hx)
    (upto_level types leveled parent (Some s) n2 ys (level types r) top g_all.1 hy)
    (sym (append_assoc (sequence k) (sequence n) xs) ∙ tails ∙ append_assoc (sequence k2) (sequence n2) ys) in
    let nexts : (n ≡ n2) × (xs ≡ ys) = one_forest types leveled n n2 parent (Some r) (Some s) xs ys f_all.1 g_all.1 hx hy kids.1 in
    ((λ i. node (same i) (kids.0 i) (nexts.0 i)), nexts.1)

-- The rows on one path are together no longer than the longest path.
use Rattle.std.proofs.Common.{◌≡◌, ℕ, zero, suc, ◌+◌, ◌-◌, ◌<◌, ◌≤◌, List, [], ◌∷◌, ◌++◌, length, true, arith, Option, Some, None, refl, sym, ap, ◌∙◌, subst, IsTrue}
use Rattle.std.specs.Prelude.{slice_get, slice_index, option_and_then, option_map}
use Rattle.std.specs.Option.{option_map_or}
use Rattle.std.proofs.lemmas.List.{length-append, get_or_at}
use Rattle.hd_dbd.specs.Types.{SegmentType}
use Rattle.hd_dbd.specs.Segment.{Segment}
use Rattle.hd_dbd.specs.Hierarchy.{weights_from, weights, greatest, longest_path, type_of, parent_of}
use Rattle.hd_dbd.specs.declared.hierarchy.FreeSpace.{FreeSpace}
use Rattle.hd_dbd.specs.DatabaseRules.{well_formed}
use Rattle.hd_dbd.specs.Laws.{IsInSequence}
use Rattle.hd_dbd.specs.Rows.{valid}
use Rattle.hd_dbd.specs.Paths.{row_at, level_at, parent_row, path_of}
use Rattle.hd_dbd.proofs.Levels.{weights_front, type_within}
use Rattle.hd_dbd.proofs.Fitting.{IsEarlier}
use Rattle.hd_dbd.proofs.LevelLaw.{leveled, parents_earlier}
use Rattle.hd_dbd.proofs.TypeLengths.{row-type, length-most}
use Rattle.hd_dbd.proofs.RowPaths.{path_follows}
use Rattle.hd_dbd.proofs.InSequence.{in_sequence}
use Rattle.hd_dbd.proofs.Twins.{nearest_before}

-- ---- what a type weighs with those above it

-- a parent's place is before the type's
abbrev IsBefore : Option ℕ → ℕ → Type 0
IsBefore None n = Unit {0}
IsBefore (Some p) n = p - 1 < n

abbrev above_weight : List ℕ → Option ℕ → ℕ
above_weight found parent = option_map_or (λ p. slice_index found (p - 1)) parent 0

-- what a parent weighs is kept
parent_kept : (w : SegmentType → ℕ) (so_far : List ℕ) (ts : List SegmentType) (parent : Option ℕ) → IsBefore parent (length so_far)
    → above_weight so_far parent ≡ above_weight (weights_from w so_far ts) parent
parent_kept w so_far ts None below = refl
parent_kept w so_far ts (Some p) below = sym (weights_front w so_far ts (p - 1) below)

-- each type weighs its own weight and that of its parent
weights_at : (w : SegmentType → ℕ) (so_far : List ℕ) (ts : List SegmentType) (j : ℕ) (t : SegmentType) → slice_get ts j ≡ Some t → IsBefore t.parent (length so_far + j)
    → slice_index (weights_from w so_far ts) (length so_far + j) ≡ w t + above_weight (weights_from w so_far ts) t.parent
weights_at w so_far [] j t is below = cc
weights_at w so_far (u ∷ us) zero t is below =
    let own : ℕ = w u + above_weight so_far u.parent in
    let same : u ≡ t = cc in
    let here : length so_far + 0 ≡ length so_far = omega arith in
    let earlier : IsBefore u.parent (length so_far) =
    subst (λ (n : ℕ). IsBefore u.parent n) here (subst (λ (v : SegmentType). IsBefore v.parent (length so_far + 0)) (sym same) below) in
    ap (λ (n : ℕ). slice_index (weights_from w so_far (u ∷ us)) n) here
    ∙ weights_front w (so_far ++ own ∷ []) us (length so_far) (omega (arith, length-append so_far (own ∷ [])))
    ∙ get_or_at so_far own [] 0 (length so_far) refl
    ∙ ap (λ (n : ℕ). w u + n) (parent_kept w so_far (u ∷ us) u.parent earlier)
    ∙ ap (λ (v : SegmentType). w v + above_weight (weights_from w so_far (u ∷ us)) v.parent) same
weights_at w so_far (u ∷ us) (suc j) t is below =
    let own : ℕ = w u + above_weight so_far u.parent in
    let place : length so_far + suc j ≡ length (so_far ++ own ∷ []) + j = omega (arith, length-append so_far (own ∷ [])) in
    ap (λ (n : ℕ). slice_index (weights_from w so_far (u ∷ us)) n) place
    ∙ weights_at w (so_far ++ own ∷ []) us j t is (subst (λ (n : ℕ). IsBefore t.parent n) place below)

before : (parent : Option ℕ) (c : ℕ) → IsEarlier parent c → IsBefore parent (c - 1)
before None c early = tt
before (Some p) c early = omega arith

-- the bytes of a type with those of the types above it
abbrev type_weights : List SegmentType → List ℕ
type_weights types = weights (λ t. t.length) types

abbrev weight_of : List SegmentType → ℕ → ℕ
weight_of types c = slice_index (type_weights types) (c - 1)

weight_above : (types : List SegmentType) (c : ℕ) (t : SegmentType) → IsEarlier t.parent c → type_of types c ≡ Some t
    → weight_of types c ≡ t.length + above_weight (type_weights types) t.parent
weight_above types c t early is =
    let within = type_within types c t is in
    let place : c - 1 ≡ 0 + (c - 1) = omega arith in
    ap (λ (n : ℕ). slice_index (type_weights types) n) place
    ∙ weights_at (λ u. u.length) [] types (c - 1) t within.1 (subst (λ (n : ℕ). IsBefore t.parent n) place (before t.parent c early))

-- no number of a list is above the greatest
below_greatest : (xs : List ℕ) (i : ℕ) → slice_index xs i ≤ greatest xs
below_greatest [] i = omega arith
below_greatest (x ∷ xs) zero = omega arith
below_greatest (x ∷ xs) (suc i) = omega (arith, below_greatest xs i)

-- ---- what rows take together

-- the lengths of some lists together
abbrev pub total : (ℕ → List ℕ) → List ℕ → ℕ
total bytes [] = 0
total bytes (k ∷ ks) = length (bytes k) + total bytes ks

pub total_join : (bytes : ℕ → List ℕ) (xs ys : List ℕ) → total bytes (xs ++ ys) ≡ total bytes xs + total bytes ys
total_join bytes [] ys = omega arith
total_join bytes (x ∷ xs) ys = (let r : total bytes (xs ++ ys) ≡ total bytes xs + total bytes ys = total_join bytes xs ys in omega arith)

module _ (types : List SegmentType) (rows : List Segment) (block_size : ℕ) (frspc : FreeSpace) (formed : IsTrue (well_formed block_size frspc types)) (all : valid types rows ≡ true) where
  in_order : IsInSequence types rows
  in_order = in_sequence types (leveled block_size frspc types formed) rows all

  abbrev bytes_at_row : ℕ → List ℕ
  bytes_at_row k = (row_at rows k).bytes

  -- a row's type weighs no less than the row, with its parent's type
  own_weight : (i : ℕ) → i < length rows → length (bytes_at_row i) + above_weight (type_weights types) (parent_of types (row_at rows i).code) ≤ weight_of types (row_at rows i).code
  own_weight i within =
      let r : Segment = row_at rows i in
      let T = row-type types r (in_order.fit i within) in
      let most : length r.bytes ≤ T.type.length = length-most T.type r.bytes T.fits in
      let weighs : weight_of types r.code ≡ T.type.length + above_weight (type_weights types) T.type.parent =
      weight_above types r.code T.type (parents_earlier block_size frspc types r.code T.type formed T.is) T.is in
      let above : above_weight (type_weights types) (parent_of types r.code) ≡ above_weight (type_weights types) T.type.parent =
      ap (λ (o : Option SegmentType). above_weight (type_weights types) (option_and_then (λ (u : SegmentType). u.parent) o)) T.is in
      omega (arith, most, weighs, above)

  none_above : (i : ℕ) → i < length rows → parent_row types rows i ≡ None → total bytes_at_row (path_of types rows i) ≤ weight_of types (row_at rows i).code
  none_above i within e =
      let path : path_of types rows i ≡ i ∷ [] = path_follows types rows i ∙ ap (λ (o : Option ℕ). option_map_or (λ p. path_of types rows p) o [] ++ i ∷ []) e in
      let size : total bytes_at_row (path_of types rows i) ≡ length (bytes_at_row i) + 0 = ap (total bytes_at_row) path in
      let own = own_weight i within in
      omega arith

  one_above : (i q : ℕ) → i < length rows → parent_row types rows i ≡ Some q → total bytes_at_row (path_of types rows q) ≤ weight_of types (row_at rows q).code
      → total bytes_at_row (path_of types rows i) ≤ weight_of types (row_at rows i).code
  one_above i q within e more =
      let path : path_of types rows i ≡ path_of types rows q ++ i ∷ [] = path_follows types rows i ∙ ap (λ (o : Option ℕ). option_map_or (λ p. path_of types rows p) o [] ++ i ∷ []) e in
      let size : total bytes_at_row (path_of types rows i) ≡ total bytes_at_row (path_of types rows q) + (length (bytes_at_row i) + 0) = ap (total bytes_at_row) path ∙ total_join bytes_at_row (path_of types rows q) (i ∷ []) in
      let above : above_weight (type_weights types) (parent_of types (row_at rows i).code) ≡ weight_of types (row_at rows q).code =
      ap (λ (o : Option ℕ). above_weight (type_weights types) o) (sym (in_order.parents i within) ∙ ap (option_map (λ j. (row_at rows j).code)) e) in
      let own = own_weight i within in
      omega (arith, own, above, more, size)

  weighs : (n i : ℕ) → i < n → i < length rows → total bytes_at_row (path_of types rows i) ≤ weight_of types (row_at rows i).code
  weighs zero i few within = absurd (omega arith)
  weighs (suc n) i few within = by_parent (parent_row types rows i) refl (λ q l w. weighs n q l w)
    where
      by_parent : (o : Option ℕ) → parent_row types rows i ≡ o
          → ((q : ℕ) → q < n → q < length rows → total bytes_at_row (path_of types rows q) ≤ weight_of types (row_at rows q).code)
          → total bytes_at_row (path_of types rows i) ≤ weight_of types (row_at rows i).code
      by_parent None e more = none_above i within e
      by_parent (Some q) e more =
          (let from : q < i = nearest_before types rows (level_at types rows i) i q e in
          one_above i q within e (more q (omega arith) (omega arith)))

  -- the rows on a path are together no longer than the longest path
  pub path_short : (i : ℕ) → i < length rows → total (λ k. (row_at rows k).bytes) (path_of types rows i) ≤ longest_path types
  path_short i within =
      let sum : total bytes_at_row (path_of types rows i) ≤ weight_of types (row_at rows i).code = weighs (suc i) i (omega arith) within in
      let most : weight_of types (row_at rows i).code ≤ greatest (type_weights types) = below_greatest (type_weights types) ((row_at rows i).code - 1) in
      omega arith

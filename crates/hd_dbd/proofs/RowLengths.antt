-- No valid row is longer than the longest path.
use Rattle.std.proofs.Common.{◌≡◌, ℕ, zero, suc, ◌+◌, ◌-◌, ◌≤◌, List, [], ◌∷◌, ◌++◌, length, true, arith, Some, refl, ap, ◌∙◌, subst, sym}
use Rattle.std.specs.Prelude.{IsTrue, slice_get, slice_index}
use Rattle.std.specs.Option.{option_map_or}
use Rattle.std.proofs.lemmas.Bool.{and_parts}
use Rattle.std.proofs.lemmas.List.{length-append, get_or_at}
use Rattle.hd_dbd.specs.Types.{SegmentType}
use Rattle.hd_dbd.specs.Segment.{Segment}
use Rattle.hd_dbd.specs.Hierarchy.{weights_from, weights, greatest, longest_path}
use Rattle.hd_dbd.specs.Rows.{row_fits, valid, valid_from, next_path}
use Rattle.hd_dbd.specs.Paths.{row_at}
use Rattle.hd_dbd.proofs.Levels.{weights_front, type_within}
use Rattle.hd_dbd.proofs.TypeLengths.{row-type, length-most}

-- a type weighs with those above it no less than alone
weight_counts : (w : SegmentType → ℕ) (so_far : List ℕ) (ts : List SegmentType) (i : ℕ) (t : SegmentType) → slice_get ts i ≡ Some t → w t ≤ slice_index (weights_from w so_far ts) (length so_far + i)
weight_counts w so_far [] i t is = cc
weight_counts w so_far (u ∷ us) zero t is =
    let own : ℕ = w u + option_map_or (λ p. slice_index so_far (p - 1)) u.parent 0 in
    let same : u ≡ t = cc in
    let here : length so_far + 0 ≡ length so_far = omega arith in
    let value : slice_index (weights_from w (so_far ++ own ∷ []) us) (length so_far + 0) ≡ own =
    ap (λ (n : ℕ). slice_index (weights_from w (so_far ++ own ∷ []) us) n) here
    ∙ weights_front w (so_far ++ own ∷ []) us (length so_far) (omega (arith, length-append so_far (own ∷ [])))
    ∙ get_or_at so_far own [] 0 (length so_far) refl in
    let alone : w u ≡ w t = ap w same in
    omega (arith, value, alone)
weight_counts w so_far (u ∷ us) (suc i) t is =
    let own : ℕ = w u + option_map_or (λ p. slice_index so_far (p - 1)) u.parent 0 in
    let place : length so_far + suc i ≡ length (so_far ++ own ∷ []) + i = omega (arith, length-append so_far (own ∷ [])) in
    subst (λ (n : ℕ). w t ≤ slice_index (weights_from w (so_far ++ own ∷ []) us) n) (sym place) (weight_counts w (so_far ++ own ∷ []) us i t is)

-- no number of a list is above the greatest
below_greatest : (xs : List ℕ) (i : ℕ) → slice_index xs i ≤ greatest xs
below_greatest [] i = omega arith
below_greatest (x ∷ xs) zero = omega arith
below_greatest (x ∷ xs) (suc i) = omega (arith, below_greatest xs i)

-- a row of a type is no longer than the longest path
row_short : (types : List SegmentType) (r : Segment) → row_fits types r ≡ true → length r.bytes ≤ longest_path types
row_short types r fits =
    let own = row-type types r fits in
    omega (
      arith,
      length-most own.type r.bytes own.fits,
      weight_counts (λ s. s.length) [] types (r.code - 1) own.type (type_within types r.code own.type own.is).1,
      below_greatest (weights (λ s. s.length) types) (0 + (r.code - 1)),
    )

rows_short_from : (types : List SegmentType) (path rows : List Segment) (i : ℕ) → valid_from types path rows ≡ true → length (row_at rows i).bytes ≤ longest_path types
rows_short_from types path [] i valid = omega arith
rows_short_from types path (r ∷ rs) zero valid = row_short types r (and_parts _ _ (and_parts _ _ (and_parts _ _ valid).0).0).0
rows_short_from types path (r ∷ rs) (suc i) valid = rows_short_from types (next_path types path r) rs i (and_parts _ _ valid).1

-- no row of a valid list is longer than the longest path
pub rows_short : (types : List SegmentType) (rows : List Segment) (i : ℕ) → IsTrue (valid types rows) → length (row_at rows i).bytes ≤ longest_path types
rows_short types rows i all = rows_short_from types [] rows i all
